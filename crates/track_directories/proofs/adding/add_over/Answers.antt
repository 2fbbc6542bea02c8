use Rattle.std.specs.Prelude.{Ok, IsOk}
use Rattle.std.proofs.Common.{◌≡◌, [], ◌∷◌, ◌++◌, refl, sym, subst}
use Rattle.file_model.specs.Files.{moded}
use Rattle.file_map.specs.Known.{known}
use Rattle.file_tracks.specs.Seen.{tells_of, seen_is_known}
use Rattle.file_tracks.specs.Tracked.{tracked, files_in}
use Rattle.track_directories.proofs.Tables.{both_leave}
use Rattle.track_directories.proofs.AddLaws.{mode_told}
use Rattle.track_directories.proofs.adding.add_over.Goals as goal

pub mode_over-requires-clause-can : goal.mode_over-requires-clause-can
mode_over-requires-clause-can g c =
    let o = g.F.Medium.contents c.args.store.now.disk.now in
    let d = c.args.table.now in
    let f = c.args.file.now in
    let mid = files_in (tracked g.F.Medium c.put_over.new.store) c.put_over.new.table in
    subst IsOk (sym (mode_told f.name (files_in (tracked g.F.Medium c.args.store.now) d) c.requires.absent (tells_of o) f.mode f.words (seen_is_known o d.files.items) c.requires.mode mid c.in_ok-put_over.ensures.made)) refl

pub returns-clause-added : goal.returns-clause-added
returns-clause-added g c =
    let o = g.F.Medium.contents c.args.store.now.disk.now in
    let d = c.args.table.now in
    let f = c.args.file.now in
    let fs = files_in (tracked g.F.Medium c.args.store.now) d in
    let mid = files_in (tracked g.F.Medium c.put_over.new.store) c.put_over.new.table in
    let told : moded f.name f.mode mid ≡ Ok (known (tells_of o) (fs ++ f ∷ [])) =
    mode_told f.name fs c.requires.absent (tells_of o) f.mode f.words (seen_is_known o d.files.items) c.requires.mode mid c.in_ok-put_over.ensures.made in
    let left = c.mode_over.ensures.moded in
    cc

pub returns-clause-one : goal.returns-clause-one
returns-clause-one g c = both_leave c.in_ok-put_over.ensures.one c.mode_over.ensures.one
