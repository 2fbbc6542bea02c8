use Rattle.std.specs.Prelude.{Bool}
use Rattle.std.proofs.Common.{ℕ, List, map, length, sym, ap, subst, ◌∙◌}
use Rattle.track_store.specs.declared.tracks.Tracks.{Tracks}
use Rattle.file_tracks.specs.Seen.{tells_of}
use Rattle.file_tracks.specs.declared.table.TrackTable.{TrackTable}
use Rattle.file_tracks.proofs.After.{serves_still}
use Rattle.file_tracks.specs.Tracked.{tracked}
use Rattle.track_directories.specs.Tables.{state_of}
use Rattle.track_directories.specs.Firsts.{Empty, AreEmpty, HaveNone}
use Rattle.track_directories.proofs.Bare.{sound_first, none_yet}
use Rattle.track_directories.proofs.empty.EmptyDirectories.over.Goals as goal

pub returns-clause-sound : goal.returns-clause-sound
returns-clause-sound g c =
    let s = tracked g.F.Medium c.over-store.result in
    let ds = c.self.inside.tables.items in
    let e = c.over-store.ensures in
    let many = ap (λ (t : Tracks). length t.taken.items) e.tracks ∙ ap (λ (x : Empty). x.tracks) c.self.view_is in
    sound_first s ds (subst (λ (t : Tracks). AreEmpty t.taken.items ds) (sym e.tracks) c.self.invariant)
    (serves_still _ _ _ _ _ _ _ _ c.requires.serves (ap g.F.Medium.contents e.now) (ap g.F.Medium.record_count e.now) (ap g.F.Medium.words_each e.now) many)

pub returns-clause-none : goal.returns-clause-none
returns-clause-none g c =
    let s = tracked g.F.Medium c.over-store.result in
    let ds = c.self.inside.tables.items in
    let e = c.over-store.ensures in
    subst (λ (qs : List ℕ). HaveNone qs (tells_of (g.F.Medium.contents c.args.disk.now)) (g.F.Medium.faults c.args.disk.now) (state_of s ds)) (ap (λ (x : Empty). x.quotas) c.self.view_is)
    (subst (λ (t : Bool). HaveNone (map (λ (t : TrackTable). t.quota) ds) t (g.F.Medium.faults c.args.disk.now) (state_of s ds)) (ap (λ x. tells_of (g.F.Medium.contents x)) e.now)
    (subst (λ (n : ℕ). HaveNone (map (λ (t : TrackTable). t.quota) ds) (tells_of s.contents) n (state_of s ds)) (ap g.F.Medium.faults e.now)
    (none_yet s ds (subst (λ (t : Tracks). AreEmpty t.taken.items ds) (sym e.tracks) c.self.invariant))))
