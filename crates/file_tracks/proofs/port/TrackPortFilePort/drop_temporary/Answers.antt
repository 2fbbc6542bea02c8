use Rattle.std.proofs.Common.{◌≡◌, List, sym, ap, rules}
use Rattle.ctss_types.specs.declared.file.FileBody.{FileBody}
use Rattle.file_model.specs.Files.{lasting}
use Rattle.file_tracks.specs.Seen.{tells_of}
use Rattle.file_tracks.proofs.Calls.{frees_left, frees_usable, frees_goes}
use Rattle.file_tracks.proofs.port.TrackPortFilePort.drop_temporary.Goals as goal

pub returns-clause-left : goal.returns-clause-left
returns-clause-left g c =
    let e = c.drop_temporary.ensures in
    frees_left g.F.Medium c.args.self.now.store.now c.drop_temporary.new.store _ c.drop_temporary.new.self _ c.requires.usable e.frees e.now (λ (xs ys : List FileBody). ys ≡ lasting xs) e.left

pub returns-clause-usable : goal.returns-clause-usable
returns-clause-usable g c = frees_usable g.F.Medium c.args.self.now.store.now c.drop_temporary.new.store _ _ _ c.requires.usable c.drop_temporary.ensures.frees c.drop_temporary.ensures.now

pub returns-clause-keeps : goal.returns-clause-keeps
returns-clause-keeps g c =
    let e = c.drop_temporary.ensures in
    (search rules, search rules, sym e.same, frees_goes g.F.Medium c.args.self.now.store.now c.drop_temporary.new.store _ _ _ c.requires.usable e.frees e.now)

pub returns-clause-telling : goal.returns-clause-telling
returns-clause-telling g c = ap (λ x. tells_of (g.F.Medium.contents x)) c.drop_temporary.ensures.now
