-- Directories that have no file yet.
use Rattle.std.specs.Prelude.{Bool, Option, Some, None, sum}
use Rattle.std.specs.List.{All}
use Rattle.std.proofs.Common.{◌≡◌, ℕ, ◌+◌, ◌-◌, List, [], ◌∷◌, map, length, zero, suc, refl, sym, ◌∙◌, ap, subst}
use Rattle.std.proofs.lemmas.List.{length-map}
use Rattle.std.proofs.lemmas.List.Sums.{sum_by-cons}
use Rattle.std.proofs.lemmas.List.Elements.{All-head, All-tail}
use Rattle.track_store.specs.Tracks.{ServesTracks}
use Rattle.file_tracks.specs.Seen.{tells_of, files_seen}
use Rattle.file_tracks.specs.Directories.{quota_all, AreDirectories}
use Rattle.file_tracks.specs.declared.table.TrackTable.{TrackTable}
use Rattle.file_tracks.proofs.First.{AreBare, are_first}
use Rattle.file_tracks.specs.Tracked.{Tracked}
use Rattle.track_directories.specs.Tables.{files_at, state_of, IsSound}
use Rattle.track_directories.specs.Firsts.{AreEmpty, HaveNone}

abbrev pub IsBare : TrackTable → Type 0
IsBare t = (t.files.items ≡ []) × (t.used ≡ 0)

bare_all : (ds : List TrackTable) → All IsBare ds → AreBare ds
bare_all [] h = tt
bare_all (d ∷ ds) h = let here = All-head IsBare d ds h in (here.0, here.1, bare_all ds (All-tail IsBare d ds h))

-- all quotas together
pub quotas_sum : (ds : List TrackTable) → quota_all ds ≡ sum (map (λ (t : TrackTable). t.quota) ds)
quotas_sum [] = refl
quotas_sum (d ∷ ds) = ap (λ (n : ℕ). d.quota + n) (quotas_sum ds) ∙ sym (sum_by-cons (λ (n : ℕ). n) d.quota (map (λ (t : TrackTable). t.quota) ds))

seen_none : (o : Option (List (List ℕ))) → files_seen o [] ≡ []
unfolding files_seen
seen_none None = refl
seen_none (Some contents) = refl

none_at : (o : Option (List (List ℕ))) (ds : List TrackTable) → All IsBare ds → (u : ℕ) → files_at o ds u ≡ []
none_at o [] h u = refl
none_at o (d ∷ ds) h zero = ap (files_seen o) (All-head IsBare d ds h).0 ∙ seen_none o
none_at o (d ∷ ds) h (suc u) = none_at o ds (All-tail IsBare d ds h) u

module _ (s : Tracked) (ds : List TrackTable) (empty : AreEmpty s.taken ds) where
  pub sound_first : ServesTracks s.contents s.count s.each (length s.taken) → IsSound s ds
  sound_first serves = record {
    all = subst (λ (taken : List Bool). AreDirectories s.contents taken ds) (sym empty.free) (are_first s.contents (length s.taken) ds (bare_all ds empty.bare) empty.fits);
    serves = serves;
    small = empty.small;
    some = empty.some;
  }

  pub none_yet : HaveNone (map (λ (t : TrackTable). t.quota) ds) (tells_of s.contents) s.faults (state_of s ds)
  none_yet = record {
    own = none_at s.contents ds empty.bare;
    may = λ u. refl;
    common = none_at s.contents ds empty.bare 0;
    common_may = refl;
    count = ap (λ (n : ℕ). n - 1) (sym (length-map ds (λ (t : TrackTable). t.quota)));
    tells = refl;
    faults = refl;
  }
