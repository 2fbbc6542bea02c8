-- The file of a name in a table, and the tracks of a file.
use Rattle.std.specs.Prelude.{Bool, true, false, Option, is_some, drop, slice_index_or, if◌then◌else◌, MatchOption}
use Rattle.std.proofs.Common.{◌≡◌, ℕ, zero, suc, ◌+◌, ◌<◌, ◌≤◌, List, [], ◌∷◌, map, length, get_or, Some, None, refl, sym, ◌∙◌, ap, arith}
use Rattle.std.specs.List.{All}
use Rattle.std.proofs.lemmas.List.{drop_more, drop_all}
use Rattle.ctss_types.specs.Names.{NamePair}
use Rattle.ctss_types.specs.declared.file.FileBody.{FileBody}
use Rattle.file_model.specs.Files.{same_name, is_named, file_named}
use Rattle.track_store.specs.Tracks.{is_taken}
use Rattle.file_tracks.specs.Places.{count_in, bit}
use Rattle.file_map.specs.Listing.{listing_of}
use Rattle.file_tracks.specs.Stored.{body_on, files_on, row_for, HasTracks, IsWhole}
use Rattle.file_tracks.specs.declared.table.Filed.{Filed}
use Rattle.std.proofs.lemmas.List.Elements.{All-head, All-tail}
use Rattle.file_tracks.proofs.Joined.{head_here, in_rest}
use Rattle.file_tracks.proofs.Tables.{content-length}
use Rattle.file_tracks.proofs.Replaced.{bit_taken}

-- one place on in the search
pub named_more : (name : NamePair) (contents : List (List ℕ)) (fs : List Filed) (i : ℕ) (f : Filed) → i < length fs → f ≡ get_or fs i f → same_name f.name name ≡ false
    → file_named name (files_on contents (drop i fs)) ≡ file_named name (files_on contents (drop (i + 1) fs))
named_more name contents fs i f inside is other =
    ap (λ (gs : List Filed). file_named name (files_on contents gs)) (drop_more fs i f inside)
    ∙ ap (λ (g : Filed). file_named name (body_on contents g ∷ files_on contents (drop (i + 1) fs))) (sym is)
    ∙ ap (λ (b : Bool). if b then Some (body_on contents f) else file_named name (files_on contents (drop (i + 1) fs))) other

pub named_here : (name : NamePair) (contents : List (List ℕ)) (fs : List Filed) (i : ℕ) (f : Filed) → i < length fs → f ≡ get_or fs i f → same_name f.name name ≡ true
    → file_named name (files_on contents (drop i fs)) ≡ Some (body_on contents f)
named_here name contents fs i f inside is same =
    ap (λ (gs : List Filed). file_named name (files_on contents gs)) (drop_more fs i f inside)
    ∙ ap (λ (g : Filed). file_named name (body_on contents g ∷ files_on contents (drop (i + 1) fs))) (sym is)
    ∙ ap (λ (b : Bool). if b then Some (body_on contents f) else file_named name (files_on contents (drop (i + 1) fs))) same

pub named_none : (name : NamePair) (contents : List (List ℕ)) (fs : List Filed) (i : ℕ) → length fs ≤ i → file_named name (files_on contents (drop i fs)) ≡ None
named_none name contents fs i h = ap (λ (gs : List Filed). file_named name (files_on contents gs)) (drop_all i fs h)

-- a file that was found has the name
pub is_found : (name : NamePair) (fs : List FileBody) (f : FileBody) → file_named name fs ≡ Some f → is_named name f ≡ true
is_found name [] f h = cc
is_found name (g ∷ gs) f h = by_test (is_named name g) refl (is_found name gs f) h
  where
    some_same : Some g ≡ Some f → g ≡ f
    some_same e = cc

    by_test : (b : Bool) → is_named name g ≡ b → (file_named name gs ≡ Some f → is_named name f ≡ true) → (if b then Some g else file_named name gs) ≡ Some f → is_named name f ≡ true
    by_test true is rest e = ap (is_named name) (sym (some_same e)) ∙ is
    by_test false is rest e = rest e

-- tracks that stand no more often than they are taken are taken
pub all_taken : (taken : List Bool) (ts : List ℕ) → ((t : ℕ) → count_in t ts ≤ bit taken t) → All (λ (t : ℕ). is_taken taken t ≡ true) ts
all_taken taken ts few k d low = bit_taken taken (slice_index_or ts k d) (let a = few (slice_index_or ts k d) in let b = stands ts k d low in omega (arith, a, b))
  where
    stands : (ts : List ℕ) (k d : ℕ) → k < length ts → 1 ≤ count_in (slice_index_or ts k d) ts
    stands [] k d low = absurd (omega arith)
    stands (x ∷ xs) zero d low = let h = head_here x xs in omega (arith, h)
    stands (x ∷ xs) (suc k) d low = let a = stands xs k d (omega arith) in let b = in_rest x (slice_index_or xs k d) xs in omega (arith, a, b)

-- whether a file was found
pub has_is : (name : NamePair) (fs : List Filed) (r : Option ℕ) → MatchOption r ((contents : List (List ℕ)) → file_named name (files_on contents fs) ≡ None)
    (λ i. (i < length fs) × ((contents : List (List ℕ)) (d : Filed) → file_named name (files_on contents fs) ≡ Some (body_on contents (get_or fs i d))))
    → (contents : List (List ℕ)) → is_some r ≡ is_some (file_named name (files_on contents fs))
has_is name fs None h contents = ap is_some (sym (h contents))
has_is name [] (Some i) h contents = absurd (let low = h.0 in omega (arith, low))
has_is name (f ∷ fs) (Some i) h contents = ap is_some (sym (h.1 contents f))

-- what a listing shows of files
pub listing_is : (contents : List (List ℕ)) (fs : List Filed) → All HasTracks fs → All (IsWhole contents) fs → listing_of (files_on contents fs) ≡ map row_for fs
listing_is contents [] tracks whole = refl
listing_is contents (f ∷ fs) tracks whole =
    let here = content-length contents f (All-head HasTracks f fs tracks) (All-head (IsWhole contents) f fs whole) in
    let more = listing_is contents fs (All-tail HasTracks f fs tracks) (All-tail (IsWhole contents) f fs whole) in
    λ j. record { name = f.name; mode = f.mode; words = here j } ∷ more j
