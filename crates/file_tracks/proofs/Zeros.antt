-- Rows of zeros, which a disk may have that doesn't tell its records.
use Rattle.std.specs.Prelude.{Bool, Option, None, Some, replicate, take}
use Rattle.std.specs.List.{All}
use Rattle.std.proofs.Common.{◌≡◌, ℕ, ◌+◌, ◌*◌, ◌<◌, ◌≤◌, List, [], ◌∷◌, ◌++◌, map, length, refl, ◌∙◌, ap, ap₂, arith}
use Rattle.std.proofs.lemmas.List.{take-replicate, replicate-append-replicate, get_or-replicate, length-replicate}
use Rattle.std.proofs.lemmas.List.Elements.{All-head, All-tail}
use Rattle.faults.specs.Faults.{WhereTold}
use Rattle.track_store.specs.Words.{record_at, tracks_joined}
use Rattle.track_store.proofs.Taken.{taken_below}
use Rattle.file_tracks.specs.Places.{count_in}
use Rattle.file_tracks.specs.Stored.{content, files_on, HasTracks, IsWhole, IsDirectory, MayBe}
use Rattle.file_tracks.specs.Seen.{blank_of, files_seen}
use Rattle.file_tracks.specs.declared.table.Filed.{Filed}
use Rattle.file_tracks.proofs.Joined.{head_here, in_rest}
use Rattle.file_tracks.proofs.Replaced.{bit_taken}
use Rattle.file_tracks.proofs.Tables.{occurs_at}
use Rattle.file_tracks.proofs.Anyhow.{zeros, enough}

joined_zeros : (n : ℕ) (ts : List ℕ) → ((t : ℕ) → 1 ≤ count_in t ts → t < n) → tracks_joined (zeros n) ts ≡ replicate (432 * length ts) 0
joined_zeros n [] h = refl
joined_zeros n (t ∷ ts) h =
    let here : record_at (zeros n) t ≡ replicate 432 0 = get_or-replicate n t (replicate 432 0) [] (h t (let k = head_here t ts in omega (arith, k))) in
    let more = joined_zeros n ts (λ u some. h u (let k = in_rest t u ts in omega (arith, k, some))) in
    let sum : 432 + 432 * length ts ≡ 432 * length (t ∷ ts) = omega arith in
    ap₂ (λ (xs ys : List ℕ). xs ++ ys) here more
    ∙ replicate-append-replicate {A = ℕ} 432 (432 * length ts) 0
    ∙ ap (λ (k : ℕ). replicate k 0) sum

content_zeros : (n : ℕ) (f : Filed) → HasTracks f → ((t : ℕ) → 1 ≤ count_in t f.tracks.items → t < n) → content (zeros n) f ≡ replicate f.words 0
content_zeros n f tracks within =
    ap (take f.words) (joined_zeros n f.tracks.items within)
    ∙ take-replicate f.words (432 * length f.tracks.items) 0 (enough _ _ _ refl tracks)

-- all tracks of the files are below
abbrev pub AreWithin : ℕ → List Filed → Type 0
AreWithin n fs = All (λ (f : Filed). (t : ℕ) → 1 ≤ count_in t f.tracks.items → t < n) fs

zeros_are : (n : ℕ) (fs : List Filed) → All HasTracks fs → AreWithin n fs → files_on (zeros n) fs ≡ map blank_of fs
zeros_are n [] tracks within = refl
zeros_are n (f ∷ fs) tracks within =
    let here : content (zeros n) f ≡ replicate f.words 0 = content_zeros n f (All-head HasTracks f fs tracks) (All-head (λ (f : Filed). (t : ℕ) → 1 ≤ count_in t f.tracks.items → t < n) f fs within) in
    let more = zeros_are n fs (All-tail HasTracks f fs tracks) (All-tail (λ (f : Filed). (t : ℕ) → 1 ≤ count_in t f.tracks.items → t < n) f fs within) in
    λ j. record { name = f.name; mode = f.mode; words = here j } ∷ more j

-- contents that a disk may have
abbrev pub rows_of : Option (List (List ℕ)) → ℕ → List (List ℕ)
rows_of None n = zeros n
rows_of (Some contents) n = contents

pub may_rows : (told : Option (List (List ℕ))) (n : ℕ) → MayBe told (rows_of told n)
may_rows None n = tt
may_rows (Some r) n = refl

pub reach_rows : (told : Option (List (List ℕ))) (n : ℕ) → WhereTold told (λ contents. n ≤ length contents) → n ≤ length (rows_of told n)
reach_rows None n h = let l = length-replicate {A = List ℕ} n (replicate 432 0) in omega (arith, l)
reach_rows (Some r) n h = h

module _ (taken : List Bool) (quota used : ℕ) (fs : List Filed) where
  within : (told : Option (List (List ℕ))) → IsDirectory told taken quota used fs → AreWithin (length taken) fs
  within told usable i f low t some =
      taken_below taken t (bit_taken taken t (let a = usable.once t in let o = occurs_at t fs i f low in omega (arith, a, o, some)))

  pub rows_whole : (told : Option (List (List ℕ))) → IsDirectory told taken quota used fs → All (IsWhole (rows_of told (length taken))) fs
  rows_whole None usable = λ i f low t some. ap length (get_or-replicate (length taken) t (replicate 432 0) [] (within None usable i f low t some)) ∙ length-replicate {A = ℕ} 432 0
  rows_whole (Some r) usable = usable.whole

  -- with them the files are those that the port stands for
  pub rows_seen : (told : Option (List (List ℕ))) → IsDirectory told taken quota used fs → files_on (rows_of told (length taken)) fs ≡ files_seen told fs
  unfolding files_seen
  rows_seen None usable = zeros_are (length taken) fs usable.tracked (within None usable)
  rows_seen (Some r) usable = refl
