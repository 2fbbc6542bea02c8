use Rattle.std.specs.Prelude.{None}
use Rattle.std.proofs.Common.{◌≡◌, ◌≤◌, ℕ, List, [], ◌∷◌, ◌++◌, sym, ap, subst, ◌∙◌}
use Rattle.ctss_types.specs.declared.file.FileBody.{FileBody}
use Rattle.file_model.specs.Files.{file_named, tracks_of}
use Rattle.file_map.specs.Known.{known}
use Rattle.file_map.proofs.Results.{on_ok}
use Rattle.file_tracks.specs.Seen.{tells_of}
use Rattle.file_tracks.specs.Tracked.{tracked, files_in}
use Rattle.track_directories.specs.Tables.{files_at, quota_at}
use Rattle.track_directories.proofs.Tables.{user_within, ready_at, quota_was, mine_was, mine_now, sound_at, serves_at}
use Rattle.track_directories.proofs.all.TrackDirectories.add.Goals as goal

pub add_over-requires-clause-ready : goal.add_over-requires-clause-ready
add_over-requires-clause-ready g c =
    let s = tracked g.F.Medium c.args.self.now.store in
    let ts = c.args.self.now.tables.items in
    let low = user_within s ts c.requires.sound _ _ c.number.ensures.value c.requires.can.owner.1 in
    ready_at s ts c.requires.sound c.number.result low c.index_mut-table.result.now c.index_mut-table.ensures.value

pub add_over-requires-clause-absent : goal.add_over-requires-clause-absent
add_over-requires-clause-absent g c =
    let s = tracked g.F.Medium c.args.self.now.store in
    let ts = c.args.self.now.tables.items in
    let low = user_within s ts c.requires.sound _ _ c.number.ensures.value c.requires.can.owner.1 in
    let is = ap (files_at s.contents ts) (sym c.number.ensures.value) ∙ mine_was s ts c.requires.sound c.number.result low c.index_mut-table.result.now c.index_mut-table.ensures.value in
    subst (λ (fs : List FileBody). file_named c.args.file.now.body.name fs ≡ None) is c.requires.can.absent

pub add_over-requires-clause-fits : goal.add_over-requires-clause-fits
add_over-requires-clause-fits g c =
    let s = tracked g.F.Medium c.args.self.now.store in
    let ts = c.args.self.now.tables.items in
    let f = c.args.file.now in
    let low = user_within s ts c.requires.sound _ _ c.number.ensures.value c.requires.can.owner.1 in
    let is = ap (files_at s.contents ts) (sym c.number.ensures.value) ∙ mine_was s ts c.requires.sound c.number.result low c.index_mut-table.result.now c.index_mut-table.ensures.value in
    let quota = ap (quota_at ts) (sym c.number.ensures.value) ∙ quota_was s ts c.requires.sound c.number.result low c.index_mut-table.result.now c.index_mut-table.ensures.value in
    subst (λ (n : ℕ). tracks_of (files_in s c.index_mut-table.result.now ++ f.body ∷ []) ≤ n) quota (subst (λ (fs : List FileBody). tracks_of (fs ++ f.body ∷ []) ≤ quota_at ts f.owner) is c.requires.can.fits)

pub returns-clause-sound : goal.returns-clause-sound
returns-clause-sound g c =
    let s = tracked g.F.Medium c.args.self.now.store in
    let ts = c.args.self.now.tables.items in
    let low = user_within s ts c.requires.sound _ _ c.number.ensures.value c.requires.can.owner.1 in
    sound_at s ts c.requires.sound c.number.result low c.index_mut-table.result.now c.index_mut-table.ensures.value
    (tracked g.F.Medium c.add_over.new.store) c.add_over.new.table c.add_over.result c.add_over.ensures.one

pub returns-clause-serves : goal.returns-clause-serves
returns-clause-serves g c =
    let s = tracked g.F.Medium c.args.self.now.store in
    let ts = c.args.self.now.tables.items in
    let low = user_within s ts c.requires.sound _ _ c.number.ensures.value c.requires.can.owner.1 in
    serves_at s ts c.requires.sound c.number.result low c.index_mut-table.result.now c.index_mut-table.ensures.value
    (tracked g.F.Medium c.add_over.new.store) c.add_over.new.table c.add_over.result c.add_over.ensures.one c.args.file.now.owner c.number.ensures.value c.number.ensures.range.0

pub returns-clause-added : goal.returns-clause-added
returns-clause-added g c =
    let s = tracked g.F.Medium c.args.self.now.store in
    let new = tracked g.F.Medium c.add_over.new.store in
    let ts = c.args.self.now.tables.items in
    let u = c.number.result in
    let d = c.index_mut-table.result.now in
    let d' = c.add_over.new.table in
    let value = c.number.ensures.value in
    let low = user_within s ts c.requires.sound _ _ value c.requires.can.owner.1 in
    let was = ap (files_at s.contents ts) (sym value) ∙ mine_was s ts c.requires.sound u low d c.index_mut-table.ensures.value in
    let now = ap (files_at new.contents _) (sym value) ∙ mine_now s ts c.requires.sound u low d c.index_mut-table.ensures.value new d' in
    on_ok c.add_over.result (λ e. now ∙ e ∙ ap (λ (fs : List FileBody). known (tells_of s.contents) (fs ++ c.args.file.now.body ∷ [])) (sym was)) c.add_over.ensures.added
