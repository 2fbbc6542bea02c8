-- Directories that have no file yet, on a disk of which no track is taken.
use Rattle.std.specs.Prelude.{Bool, false, Option, replicate}
use Rattle.std.specs.List.{All, IsDistinct}
use Rattle.std.proofs.Common.{◌≡◌, ℕ, zero, suc, ◌<◌, ◌≤◌, List, [], ◌∷◌, map, length, get_or, refl, sym, ◌∙◌, ap, subst, arith}
use Rattle.std.proofs.lemmas.List.{length-replicate}
use Rattle.std.proofs.lemmas.List.Elements.{All-same, All-nil}
use Rattle.std.proofs.lemmas.Map.Keys.{IsDistinct-from_apart}
use Rattle.file_model.specs.Files.{same_name}
use Rattle.track_store.specs.Tracks.{count_taken}
use Rattle.file_tracks.specs.Places.{bit}
use Rattle.file_tracks.specs.Stored.{occurs, used_by, HasTracks, HasMode, IsWhole}
use Rattle.file_tracks.specs.Directories.{total, used_all, quota_all, IsOne, AreDirectories}
use Rattle.file_tracks.specs.declared.table.Filed.{Filed}
use Rattle.file_tracks.specs.declared.table.TrackTable.{TrackTable}
use Rattle.file_tracks.proofs.Told.{told_all}

-- no directory has a file
abbrev pub AreBare : List TrackTable → Type 0
AreBare [] = Unit {0}
AreBare (d ∷ ds) = (d.files.items ≡ []) × (d.used ≡ 0) × AreBare ds

total_bare : (t : ℕ) (ds : List TrackTable) → AreBare ds → total t ds ≡ 0
total_bare t [] h = refl
total_bare t (d ∷ ds) h = let a = ap (occurs t) h.0 in let b = total_bare t ds h.2 in omega (arith, a, b)

used_bare : (ds : List TrackTable) → AreBare ds → used_all ds ≡ 0
used_bare [] h = refl
used_bare (d ∷ ds) h = let a = h.1 in let b = used_bare ds h.2 in omega (arith, a, b)

none_taken : (n t : ℕ) → bit (replicate n false) t ≡ 0
none_taken zero t = refl
none_taken (suc n) zero = refl
none_taken (suc n) (suc t) = none_taken n t

count_none : (n : ℕ) → count_taken (replicate n false) ≡ 0
count_none zero = refl
count_none (suc n) = let k = count_none n in omega (arith, k)

one_bare : (contents : Option (List (List ℕ))) (d : TrackTable) → d.files.items ≡ [] → d.used ≡ 0 → IsOne contents d
one_bare contents d none unused = record {
  few = omega (arith, unused);
  counted = unused ∙ ap used_by (sym none);
  tracked = All-same HasTracks d.files.items [] none (All-nil HasTracks);
  modes = All-same HasMode d.files.items [] none (All-nil HasMode);
  differ = subst (λ (fs : List Filed). IsDistinct same_name (map (λ (f : Filed). f.name) fs)) (sym none) (IsDistinct-from_apart same_name [] (λ i j e less low. absurd (omega (arith, low))));
  whole = told_all contents (λ r. All (IsWhole r) d.files.items) (λ r. All-same (IsWhole r) d.files.items [] none (All-nil (IsWhole r)));
}

each_bare : (contents : Option (List (List ℕ))) (ds : List TrackTable) → AreBare ds → (d : ℕ) (e : TrackTable) → d < length ds → IsOne contents (get_or ds d e)
each_bare contents [] h d e low = absurd (omega (arith, low))
each_bare contents (x ∷ ds) h zero e low = one_bare contents x h.0 h.1
each_bare contents (x ∷ ds) h (suc d) e low = each_bare contents ds h.2 d e (omega (arith, low))

pub are_first : (contents : Option (List (List ℕ))) (n : ℕ) (ds : List TrackTable) → AreBare ds → quota_all ds ≤ n → AreDirectories contents (replicate n false) ds
are_first contents n ds h fits = record {
  once = λ t. (total_bare t ds h ∙ sym (none_taken n t));
  counted = count_none n ∙ sym (used_bare ds h);
  fits = (let l = length-replicate {A = Bool} n false in omega (arith, l, fits));
  each = each_bare contents ds h;
}
