-- A file that is taken out.
use Rattle.std.specs.Prelude.{Bool, true, false, Option, Some, Ok, Err, not, filter, nat_le, nat_lt, take, drop, if◌then◌else◌}
use Rattle.std.proofs.lemmas.Bool.Decides.{nat_tests}
use Rattle.ctss_types.specs.declared.file.Refusal.TheVariants.{ReadOnly, PastEnd}
use Rattle.std.specs.List.{All, IsDistinct, remove, AllByRecursion}
use Rattle.std.proofs.Common.{◌≡◌, ℕ, zero, suc, ◌+◌, ◌<◌, ◌≤◌, List, [], ◌∷◌, map, length, get_or, refl, ◌∙◌, ap, ap₂, cond, arith}
use Rattle.std.proofs.lemmas.List.Elements.{All-head, All-tail, All-cons}
use Rattle.ctss_types.specs.Names.{NamePair}
use Rattle.ctss_types.specs.declared.file.FileBody.{FileBody}
use Rattle.file_model.specs.Files.{same_name, is_named, file_named, deleted, deleted_of, read, read_of}
use Rattle.file_map.specs.Directory.{NamesDiffer}
use Rattle.file_map.proofs.Names.{all_kept}
use Rattle.file_tracks.specs.Places.{count_in}
use Rattle.file_tracks.specs.Stored.{body_on, files_on, occurs, used_by}
use Rattle.file_tracks.specs.declared.table.Filed.{Filed}
use Rattle.file_tracks.proofs.Tables.{behind, other_head}
use Rattle.std.proofs.lemmas.Map.Keys.{IsDistinct-head, IsDistinct-tail, IsDistinct-cons}

pub occurs-remove : (t : ℕ) (fs : List Filed) (i : ℕ) (d : Filed) → i < length fs → occurs t (remove fs i) + count_in t (get_or fs i d).tracks.items ≡ occurs t fs
occurs-remove t [] i d h = absurd (omega arith)
occurs-remove t (f ∷ fs) zero d h = omega arith
occurs-remove t (f ∷ fs) (suc i) d h = let k = occurs-remove t fs i d (omega arith) in omega (arith, k)

pub used-remove : (fs : List Filed) (i : ℕ) (d : Filed) → i < length fs → used_by (remove fs i) + length (get_or fs i d).tracks.items ≡ used_by fs
used-remove [] i d h = absurd (omega arith)
used-remove (f ∷ fs) zero d h = omega arith
used-remove (f ∷ fs) (suc i) d h = let k = used-remove fs i d (omega arith) in omega (arith, k)

pub all-remove : (P : Filed → Type 0) (fs : List Filed) (i : ℕ) → All P fs → All P (remove fs i)
all-remove P [] zero h = h
all-remove P [] (suc i) h = h
all-remove P (f ∷ fs) zero h = All-tail P f fs h
all-remove P (f ∷ fs) (suc i) h = All-cons P f (remove fs i) (All-head P f fs h) (all-remove P fs i (All-tail P f fs h))

pub files-remove : (name : NamePair) (fs : List FileBody) (i : ℕ) (d : FileBody) → i < length fs → NamesDiffer fs → is_named name (get_or fs i d) ≡ true → filter (λ f. not (is_named name f)) fs ≡ remove fs i
files-remove name [] i d h differ is = absurd (omega arith)
files-remove name (f ∷ fs) zero d h differ is =
    ap₂ (λ (b : Bool) (xs : List FileBody). cond (not b) (f ∷ xs) xs) is (all_kept name fs (behind name f fs is differ))
files-remove name (f ∷ fs) (suc i) d h differ is =
    ap₂ (λ (b : Bool) (xs : List FileBody). cond (not b) (f ∷ xs) xs) (other_head name f fs i d (omega arith) differ is)
    (files-remove name fs i d (omega arith) (IsDistinct-tail same_name f.name (map (λ (g : FileBody). g.name) fs) differ) is)

pub map-remove : (contents : List (List ℕ)) (fs : List Filed) (i : ℕ) → files_on contents (remove fs i) ≡ remove (files_on contents fs) i
map-remove contents [] zero = refl
map-remove contents [] (suc i) = refl
map-remove contents (f ∷ fs) zero = refl
map-remove contents (f ∷ fs) (suc i) = ap (λ (xs : List FileBody). body_on contents f ∷ xs) (map-remove contents fs i)

pub names-remove : (fs : List Filed) (i : ℕ) → map (λ (f : Filed). f.name) (remove fs i) ≡ remove (map (λ (f : Filed). f.name) fs) i
names-remove [] zero = refl
names-remove [] (suc i) = refl
names-remove (f ∷ fs) zero = refl
names-remove (f ∷ fs) (suc i) = ap (λ (ns : List NamePair). f.name ∷ ns) (names-remove fs i)

-- names that differ still differ without one
still : (P : NamePair → Type 0) (ns : List NamePair) (i : ℕ) → AllByRecursion P ns → AllByRecursion P (remove ns i)
still P [] zero h = h
still P [] (suc i) h = h
still P (n ∷ ns) zero h = h.1
still P (n ∷ ns) (suc i) h = (h.0, still P ns i h.1)

pub distinct-remove : (ns : List NamePair) (i : ℕ) → IsDistinct same_name ns → IsDistinct same_name (remove ns i)
distinct-remove [] zero h = h
distinct-remove [] (suc i) h = h
distinct-remove (n ∷ ns) zero h = IsDistinct-tail same_name n ns h
distinct-remove (n ∷ ns) (suc i) h =
    IsDistinct-cons same_name n (remove ns i) (still (λ m. same_name n m ≡ false) ns i (IsDistinct-head same_name n ns h)) (distinct-remove ns i (IsDistinct-tail same_name n ns h))

pub deleted_is : (name : NamePair) (files : List FileBody) (b : FileBody) → file_named name files ≡ Some b → b.mode < 2 → deleted name files ≡ Ok (filter (λ f. not (is_named name f)) files)
deleted_is name files b found free =
    ap (λ (o : Option FileBody). deleted_of o name files) found
    ∙ ap (λ (x : Bool). if x then Err ReadOnly else Ok (filter (λ f. not (is_named name f)) files)) (test b.mode free)
  where
    test : (m : ℕ) → m < 2 → nat_le 2 m ≡ false
    test m k = grind (arith, nat_tests)

pub read_is : (name : NamePair) (place count : ℕ) (files : List FileBody) (b : FileBody) → file_named name files ≡ Some b → place + count ≤ length b.words → read name place count files ≡ Ok (take count (drop place b.words))
read_is name place count files b found inside =
    ap (λ (o : Option FileBody). read_of o place count) found
    ∙ ap (λ (x : Bool). if x then Err PastEnd else Ok (take count (drop place b.words))) (test (length b.words) (place + count) inside)
  where
    test : (m n : ℕ) → n ≤ m → nat_lt m n ≡ false
    test m n k = grind (arith, nat_tests)

pub read_past : (name : NamePair) (place count : ℕ) (files : List FileBody) (b : FileBody) → file_named name files ≡ Some b → length b.words < place + count → read name place count files ≡ Err PastEnd
read_past name place count files b found past =
    ap (λ (o : Option FileBody). read_of o place count) found
    ∙ ap (λ (x : Bool). if x then Err PastEnd else Ok (take count (drop place b.words))) (test (length b.words) (place + count) past)
  where
    test : (m n : ℕ) → m < n → nat_lt m n ≡ true
    test m n k = grind (arith, nat_tests)
