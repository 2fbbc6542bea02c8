-- Tracks are taken and given back.
use Rattle.std.specs.Prelude.{Bool, true, false, slice_set}
use Rattle.std.proofs.Common.{◌≡◌, ℕ, zero, suc, ◌+◌, ◌<◌, ◌≤◌, List, [], ◌∷◌, length, refl, arith}
use Rattle.track_store.specs.Tracks.{first_free, count_taken, is_taken}

-- the first free track is none that is taken
pub found : (bs : List Bool) → is_taken bs (first_free bs) ≡ false
found [] = refl
found (true ∷ bs) = found bs
found (false ∷ bs) = refl

pub first_free_le : (bs : List Bool) → first_free bs ≤ length bs
first_free_le [] = omega arith
first_free_le (true ∷ bs) = omega (arith, first_free_le bs)
first_free_le (false ∷ bs) = omega arith

pub found_below : (bs : List Bool) (n : ℕ) → n ≡ first_free bs → n ≤ length bs
found_below bs n e = omega (arith, first_free_le bs, e)

-- one more is taken then
pub found_counts : (bs : List Bool) (t : ℕ) → t < length bs → is_taken bs t ≡ false → count_taken (slice_set bs t true) ≡ count_taken bs + 1
found_counts [] t within is = absurd (omega arith)
found_counts (true ∷ bs) zero within is = cc
found_counts (false ∷ bs) zero within is = omega arith
found_counts (true ∷ bs) (suc t) within is = omega (arith, found_counts bs t (omega arith) is)
found_counts (false ∷ bs) (suc t) within is = omega (arith, found_counts bs t (omega arith) is)

-- where none is found, all are taken
pub full : (bs : List Bool) → first_free bs ≡ length bs → count_taken bs ≡ length bs
full [] e = refl
full (true ∷ bs) e = let h : first_free bs ≡ length bs = omega arith in omega (arith, full bs h)
full (false ∷ bs) e = absurd (omega arith)

-- one less is taken once a track is given back
pub given_counts : (bs : List Bool) (t : ℕ) → is_taken bs t ≡ true → count_taken bs ≡ count_taken (slice_set bs t false) + 1
given_counts [] t is = cc
given_counts (true ∷ bs) zero is = omega arith
given_counts (false ∷ bs) zero is = cc
given_counts (true ∷ bs) (suc t) is = omega (arith, given_counts bs t is)
given_counts (false ∷ bs) (suc t) is = omega (arith, given_counts bs t is)

-- a taken track is one of the tracks
pub taken_below : (bs : List Bool) (t : ℕ) → is_taken bs t ≡ true → t < length bs
taken_below [] t is = cc
taken_below (b ∷ bs) zero is = omega arith
taken_below (b ∷ bs) (suc t) is = omega (arith, taken_below bs t is)
