use Rattle.std.proofs.Common.{List, refl, rules}
use Rattle.ctss_types.specs.declared.file.FileBody.{FileBody}
use Rattle.file_model.specs.Files.{moded}
use Rattle.file_map.specs.Answers.{Leaves}
use Rattle.file_tracks.specs.Tracked.{tracked}
use Rattle.file_tracks.proofs.Calls.{frees_left, frees_usable, frees_goes, frees_naming}
use Rattle.file_tracks.proofs.port.TrackPortFilePort.chmode.Goals as goal

pub returns-clause-left : goal.returns-clause-left
returns-clause-left g c =
    let p = c.args.self.now in
    let f = frees_naming (tracked g.F.Medium p.store.now) p.table.now _ _ c.requires.usable c.chmode_in.ensures.retells in
    frees_left g.F.Medium p.store.now p.store.now _ _ _ c.requires.usable f refl (λ (xs ys : List FileBody). Leaves c.chmode_in.result (moded c.args.name c.args.mode xs) xs ys) c.chmode_in.ensures.left

pub returns-clause-usable : goal.returns-clause-usable
returns-clause-usable g c =
    let p = c.args.self.now in
    frees_usable g.F.Medium p.store.now p.store.now _ _ _ c.requires.usable (frees_naming (tracked g.F.Medium p.store.now) p.table.now _ _ c.requires.usable c.chmode_in.ensures.retells) refl

pub returns-clause-keeps : goal.returns-clause-keeps
returns-clause-keeps g c =
    let p = c.args.self.now in (
      search rules,
      search rules,
      search rules,
      frees_goes g.F.Medium p.store.now p.store.now _ _ _ c.requires.usable (frees_naming (tracked g.F.Medium p.store.now) p.table.now _ _ c.requires.usable c.chmode_in.ensures.retells) refl,
    )
