use Rattle.std.proofs.Common.{◌≡◌, ◌<◌, ◌≤◌, ℕ, List, length, get_or, sym, ◌∙◌, ap, subst}
use Rattle.track_store.specs.declared.tracks.Tracks.{Tracks}
use Rattle.file_tracks.specs.Places.{count_in, bit}
use Rattle.file_tracks.specs.declared.table.Filed.{Filed}
use Rattle.file_tracks.proofs.Found.{all_taken}
use Rattle.file_tracks.proofs.Puts.{old_bits}
use Rattle.file_tracks.proofs.table.TrackTable.read_all.Goals as goal

pub read_file-requires-clause-taken : goal.read_file-requires-clause-taken
read_file-requires-clause-taken g c =
    let fs = c.args.self.now.files.items in
    let taken = c.args.store.now.tracks.taken.items in
    let f = c.file-item.result in
    let at = c.reading.file-index in
    let value = c.deref-file-items.ensures.value in
    let is : f ≡ get_or fs at f = c.file-item.is ∙ ap (λ (xs : List Filed). get_or xs at f) value in
    let low : at < length fs = subst (λ (xs : List Filed). at < length xs) value c.reading-test.true in
    let few : (t : ℕ) → count_in t f.tracks.items ≤ bit taken t = λ t. subst (λ (x : Filed). count_in t x.tracks.items ≤ bit taken t) (sym is) (old_bits _ _ _ _ _ c.requires.usable at f low t) in
    all_taken c.reading.store.tracks.taken.items f.tracks.items
    (λ t. subst (λ (ts : Tracks). count_in t f.tracks.items ≤ bit ts.taken.items t) (sym c.reading.invariant.keeps.tracks) (few t))
