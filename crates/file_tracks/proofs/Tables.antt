-- A directory in which one file changed.
use Rattle.std.specs.Prelude.{Bool, true, false, take}
use Rattle.std.proofs.Common.{◌≡◌, ◌≢◌, ℕ, zero, suc, ◌+◌, ◌*◌, ◌<◌, ◌≤◌, List, [], ◌∷◌, ◌++◌, map, set, length, get_or, refl, sym, ◌∙◌, ap, ap₂, cond, subst, arith}
use Rattle.std.specs.List.{All}
use Rattle.std.proofs.lemmas.List.Elements.{All-head, All-tail}
use Rattle.ctss_types.specs.Names.{NamePair}
use Rattle.ctss_types.specs.declared.file.FileBody.{FileBody}
use Rattle.file_model.specs.Files.{same_name, tracks_of, tracks_of_words, is_named, with_change}
use Rattle.file_map.specs.Directory.{NamesDiffer}
use Rattle.std.specs.List.{AllByRecursion, IsDistinct}
use Rattle.std.proofs.lemmas.Map.Keys.{IsDistinct-head, IsDistinct-tail}
use Rattle.file_map.proofs.Names.{IsWithout, unchanged, same_comm, same_is}
use Rattle.track_store.specs.Words.{record_at, tracks_joined}
use Rattle.file_tracks.specs.Places.{count_in}
use Rattle.file_tracks.specs.Stored.{content, body_on, files_on, occurs, used_by, HasTracks, IsWhole}
use Rattle.file_tracks.specs.declared.table.Filed.{Filed}
use Rattle.file_map.proofs.Tracks.{tracks-cons}
use Rattle.std.proofs.lemmas.List.{length-take-le}
use Rattle.file_tracks.proofs.Joined.{joined_other, joined-length}

pub content_same : (contents contents' : List (List ℕ)) (f : Filed) → ((t : ℕ) → 1 ≤ count_in t f.tracks.items → record_at contents' t ≡ record_at contents t) → content contents' f ≡ content contents f
content_same contents contents' f h = ap (take f.words) (joined_other contents contents' f.tracks.items h)

-- files of which no track changed
pub files_same : (contents contents' : List (List ℕ)) (fs : List Filed) → ((t : ℕ) → 1 ≤ occurs t fs → record_at contents' t ≡ record_at contents t) → files_on contents' fs ≡ files_on contents fs
files_same contents contents' [] h = refl
files_same contents contents' (f ∷ fs) h =
    (λ j. record { name = f.name; mode = f.mode; words = content_same contents contents' f (λ t some. h t (omega (arith, some))) j }
    ∷ files_same contents contents' fs (λ t some. h t (omega (arith, some))) j)

pub occurs_at : (t : ℕ) (fs : List Filed) (i : ℕ) (d : Filed) → i < length fs → count_in t (get_or fs i d).tracks.items ≤ occurs t fs
occurs_at t [] i d h = absurd (omega arith)
occurs_at t (f ∷ fs) zero d h = omega arith
occurs_at t (f ∷ fs) (suc i) d h = let k = occurs_at t fs i d (omega arith) in omega (arith, k)

pub occurs_two : (t : ℕ) (fs : List Filed) (i j : ℕ) (d : Filed) → i < length fs → j < length fs → j ≢ i
    → count_in t (get_or fs i d).tracks.items + count_in t (get_or fs j d).tracks.items ≤ occurs t fs
occurs_two t [] i j d h k n = absurd (omega arith)
occurs_two t (f ∷ fs) zero zero d h k n = absurd (n refl)
occurs_two t (f ∷ fs) zero (suc j) d h k n = let o = occurs_at t fs j d (omega arith) in omega (arith, o)
occurs_two t (f ∷ fs) (suc i) zero d h k n = let o = occurs_at t fs i d (omega arith) in omega (arith, o)
occurs_two t (f ∷ fs) (suc i) (suc j) d h k n = let o = occurs_two t fs i j d (omega arith) (omega arith) (λ e. n (ap suc e)) in omega (arith, o)

pub occurs-set : (t : ℕ) (fs : List Filed) (i : ℕ) (g d : Filed) → i < length fs
    → occurs t (set fs i g) + count_in t (get_or fs i d).tracks.items ≡ occurs t fs + count_in t g.tracks.items
occurs-set t [] i g d h = absurd (omega arith)
occurs-set t (f ∷ fs) zero g d h = omega arith
occurs-set t (f ∷ fs) (suc i) g d h = let k = occurs-set t fs i g d (omega arith) in omega (arith, k)

pub occurs-append : (t : ℕ) (fs gs : List Filed) → occurs t (fs ++ gs) ≡ occurs t fs + occurs t gs
occurs-append t [] gs = omega arith
occurs-append t (f ∷ fs) gs = let k = occurs-append t fs gs in omega (arith, k)

-- one file has changed, and no track of another
pub files_set : (contents contents' : List (List ℕ)) (fs : List Filed) (i : ℕ) (g d : Filed) → i < length fs → ((t : ℕ) → occurs t fs ≤ 1)
    → ((t : ℕ) → 1 ≤ occurs t fs → count_in t (get_or fs i d).tracks.items ≡ 0 → record_at contents' t ≡ record_at contents t)
    → files_on contents' (set fs i g) ≡ set (files_on contents fs) i (body_on contents' g)
files_set contents contents' [] i g d h once same = absurd (omega arith)
files_set contents contents' (f ∷ fs) zero g d h once same =
    ap (λ (xs : List FileBody). body_on contents' g ∷ xs) (files_same contents contents' fs (λ t some. same t (omega (arith, some)) (let k = once t in omega (arith, k, some))))
files_set contents contents' (f ∷ fs) (suc i) g d h once same =
    let inside : i < length fs = omega arith in
    (λ j. record {
      name = f.name;
      mode = f.mode;
      words = content_same contents contents' f (λ t some. same t (omega (arith, some)) (let k = once t in let l = occurs_at t fs i d inside in omega (arith, k, l, some))) j;
    } ∷ files_set contents contents' fs i g d inside (λ t. let k = once t in omega (arith, k)) (λ t some none. same t (omega (arith, some)) none) j)

-- the file of a name changed, by its place

none_named : (name : NamePair) (fs : List FileBody) → AllByRecursion (λ k. same_name name k ≡ false) (map (λ (f : FileBody). f.name) fs) → IsWithout name fs
none_named name [] h = refl
none_named name (f ∷ fs) h = rw (same_comm f.name name, h.0) (none_named name fs h.1)

pub behind : (name : NamePair) (f : FileBody) (fs : List FileBody) → is_named name f ≡ true → NamesDiffer (f ∷ fs) → IsWithout name fs
behind name f fs t d =
    let names = map (λ (g : FileBody). g.name) fs in
    let all : AllByRecursion (λ k. same_name f.name k ≡ false) names = IsDistinct-head same_name f.name names d in
    none_named name fs (subst (λ n. AllByRecursion (λ k. same_name n k ≡ false) names) (same_is f.name name t) all)

-- in a directory the head has another name than a file behind it
pub other_head : (name : NamePair) (f : FileBody) (fs : List FileBody) (i : ℕ) (d : FileBody) → i < length fs → NamesDiffer (f ∷ fs) → is_named name (get_or fs i d) ≡ true → is_named name f ≡ false
other_head name f fs i d h differ is =
    let names = map (λ (g : FileBody). g.name) fs in
    let all : AllByRecursion (λ k. same_name f.name k ≡ false) names = IsDistinct-head same_name f.name names differ in
    subst (λ n. same_name f.name n ≡ false) (same_is _ name is) (at_place fs i h all)
  where
    at_place : (gs : List FileBody) (k : ℕ) → k < length gs → AllByRecursion (λ n. same_name f.name n ≡ false) (map (λ (g : FileBody). g.name) gs) → same_name f.name (get_or gs k d).name ≡ false
    at_place [] k h all = absurd (omega arith)
    at_place (g ∷ gs) zero h all = all.0
    at_place (g ∷ gs) (suc k) h all = at_place gs k (omega arith) all.1

pub change_at : (name : NamePair) (change : FileBody → FileBody) (fs : List FileBody) (i : ℕ) (d : FileBody) → i < length fs → NamesDiffer fs → is_named name (get_or fs i d) ≡ true
    → with_change name change fs ≡ set fs i (change (get_or fs i d))
change_at name change [] i d h differ is = absurd (omega arith)
change_at name change (f ∷ fs) zero d h differ is =
    ap₂ (λ (b : Bool) (xs : List FileBody). cond b (change f) f ∷ xs) is (unchanged name change fs (behind name f fs is differ))
change_at name change (f ∷ fs) (suc i) d h differ is =
    let inside : i < length fs = omega arith in
    ap₂ (λ (b : Bool) (xs : List FileBody). cond b (change f) f ∷ xs) (other_head name f fs i d inside differ is)
    (change_at name change fs i d inside (IsDistinct-tail same_name f.name (map (λ (g : FileBody). g.name) fs) differ) is)

-- tracks in use

pub used-set : (fs : List Filed) (i : ℕ) (g d : Filed) → i < length fs → used_by (set fs i g) + length (get_or fs i d).tracks.items ≡ used_by fs + length g.tracks.items
used-set [] i g d h = absurd (omega arith)
used-set (f ∷ fs) zero g d h = omega arith
used-set (f ∷ fs) (suc i) g d h = let k = used-set fs i g d (omega arith) in omega (arith, k)

pub used_at : (fs : List Filed) (i : ℕ) (d : Filed) → i < length fs → length (get_or fs i d).tracks.items ≤ used_by fs
used_at [] i d h = absurd (omega arith)
used_at (f ∷ fs) zero d h = omega arith
used_at (f ∷ fs) (suc i) d h = let k = used_at fs i d (omega arith) in omega (arith, k)

-- a file's words are as many as it says
pub content-length : (contents : List (List ℕ)) (f : Filed) → HasTracks f → IsWhole contents f → length (content contents f) ≡ f.words
content-length contents f tracks whole =
    length-take-le f.words (tracks_joined contents f.tracks.items) (enough _ _ _ (joined-length contents f.tracks.items whole) tracks)
  where
    enough : (n k w : ℕ) → n ≡ 432 * k → k ≡ tracks_of_words w → w ≤ n
    enough n k w e t = omega (arith, e, t)

pub tracks_are : (contents : List (List ℕ)) (fs : List Filed) → All HasTracks fs → All (IsWhole contents) fs → tracks_of (files_on contents fs) ≡ used_by fs
tracks_are contents [] tracks whole = refl
tracks_are contents (f ∷ fs) tracks whole =
    let here : tracks_of_words (length (content contents f)) ≡ length f.tracks.items =
    ap tracks_of_words (content-length contents f (All-head HasTracks f fs tracks) (All-head (IsWhole contents) f fs whole)) ∙ sym (All-head HasTracks f fs tracks) in
    let more = tracks_are contents fs (All-tail HasTracks f fs tracks) (All-tail (IsWhole contents) f fs whole) in
    tracks-cons (body_on contents f) (files_on contents fs) ∙ (λ j. here j + more j)

pub names_are : (contents : List (List ℕ)) (fs : List Filed) → map (λ (f : FileBody). f.name) (files_on contents fs) ≡ map (λ (f : Filed). f.name) fs
names_are contents [] = refl
names_are contents (f ∷ fs) = ap (λ (ns : List NamePair). f.name ∷ ns) (names_are contents fs)

pub names_differ : (contents : List (List ℕ)) (fs : List Filed) → IsDistinct same_name (map (λ (f : Filed). f.name) fs) → NamesDiffer (files_on contents fs)
names_differ contents fs d = subst (λ (ns : List NamePair). IsDistinct same_name ns) (sym (names_are contents fs)) d

pub names_set : (fs : List Filed) (i : ℕ) (g d : Filed) → i < length fs → g.name ≡ (get_or fs i d).name → map (λ (f : Filed). f.name) (set fs i g) ≡ map (λ (f : Filed). f.name) fs
names_set [] i g d h e = refl
names_set (f ∷ fs) zero g d h e = ap (λ (n : NamePair). n ∷ map (λ (f : Filed). f.name) fs) e
names_set (f ∷ fs) (suc i) g d h e = ap (λ (ns : List NamePair). f.name ∷ ns) (names_set fs i g d (omega arith) e)
