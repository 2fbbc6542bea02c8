-- Words of segments, one after another.
use Rattle.std.proofs.Common.{◌≡◌, ◌≤◌, ◌<◌, ◌+◌, ◌-◌, ℕ, zero, suc, Bool, true, false, ◌&&◌, nat_le, List, [], ◌∷◌, length, drop, slice_index, slice_set, le-leb, refl, ap, ◌∙◌, arith}
use Rattle.std.proofs.lemmas.Bool.{lt-leb}
use Rattle.word36.specs.Bits.{address_of, decrement_of}
use Rattle.program_model.specs.Decks.{are_segments, stored}

-- outside a list nothing is set
pub set_outside : (xs : List ℕ) (i v : ℕ) → length xs ≤ i → slice_set xs i v ≡ xs
set_outside [] i v h = refl
set_outside (x ∷ xs) zero v h = absurd (omega arith)
set_outside (x ∷ xs) (suc i) v h = ap (λ (ys : List ℕ). x ∷ ys) (set_outside xs i v (omega (arith, h)))

-- the word that comes next
front : (ws : List ℕ) (i : ℕ) → i < length ws → drop i ws ≡ slice_index ws i ∷ drop (i + 1) ws
front [] i h = absurd (omega arith)
front (w ∷ ws) zero h = refl
front (w ∷ ws) (suc i) h =
    let e : suc (i + 1) ≡ suc i + 1 = omega arith in
    front ws i (omega (arith, h)) ∙ ap (λ (k : ℕ). slice_index ws i ∷ drop k (w ∷ ws)) e

in_segment : (size left w : ℕ) (ws : List ℕ) → 0 < left → are_segments size left (w ∷ ws) ≡ are_segments size (left - 1) ws
in_segment size zero w ws h = absurd (omega arith)
in_segment size (suc left) w ws h = let e : left ≡ suc left - 1 = omega arith in ap (λ (k : ℕ). are_segments size k ws) e

pub next_word : (size left i : ℕ) (ws : List ℕ) → i < length ws → 0 < left → are_segments size left (drop i ws) ≡ are_segments size (left - 1) (drop (i + 1) ws)
next_word size left i ws h k = ap (are_segments size left) (front ws i h) ∙ in_segment size left (slice_index ws i) (drop (i + 1) ws) k

first_word : (size w : ℕ) (ws : List ℕ) → 0 < decrement_of w → address_of w + decrement_of w ≤ size → are_segments size 0 (w ∷ ws) ≡ are_segments size (decrement_of w) ws
first_word size w ws h k = rw (le-leb 1 (decrement_of w) h, le-leb (address_of w + decrement_of w) size k) refl

pub next_segment : (size i : ℕ) (ws : List ℕ) → i < length ws → 0 < decrement_of (slice_index ws i) → address_of (slice_index ws i) + decrement_of (slice_index ws i) ≤ size →
    are_segments size 0 (drop i ws) ≡ are_segments size (decrement_of (slice_index ws i)) (drop (i + 1) ws)
next_segment size i ws h k m = ap (are_segments size 0) (front ws i h) ∙ first_word size (slice_index ws i) (drop (i + 1) ws) k m

empty_word : (size w : ℕ) (ws : List ℕ) → decrement_of w ≡ 0 → are_segments size 0 (w ∷ ws) ≡ false
empty_word size w ws e = ap (λ (n : ℕ). nat_le 1 n && nat_le (address_of w + decrement_of w) size && are_segments size (decrement_of w) ws) e

and_false : (a b : Bool) → (a && false && b) ≡ false
and_false true b = refl
and_false false b = refl

past_word : (size w : ℕ) (ws : List ℕ) → size < address_of w + decrement_of w → are_segments size 0 (w ∷ ws) ≡ false
past_word size w ws h = rw (lt-leb (address_of w + decrement_of w) size h) (and_false (nat_le 1 (decrement_of w)) (are_segments size (decrement_of w) ws))

pub empty_segment : (size i : ℕ) (ws : List ℕ) → i < length ws → decrement_of (slice_index ws i) ≡ 0 → are_segments size 0 (drop i ws) ≡ false
empty_segment size i ws h e = ap (are_segments size 0) (front ws i h) ∙ empty_word size (slice_index ws i) (drop (i + 1) ws) e

pub past_segment : (size i : ℕ) (ws : List ℕ) → i < length ws → size < address_of (slice_index ws i) + decrement_of (slice_index ws i) → are_segments size 0 (drop i ws) ≡ false
past_segment size i ws h k = ap (are_segments size 0) (front ws i h) ∙ past_word size (slice_index ws i) (drop (i + 1) ws) k

-- stores

store_in : (left place w : ℕ) (ws core : List ℕ) → 0 < left → stored left place (w ∷ ws) core ≡ stored (left - 1) (place + 1) ws (slice_set core place w)
store_in zero place w ws core h = absurd (omega arith)
store_in (suc left) place w ws core h =
    let e : left ≡ suc left - 1 = omega arith in let d : suc place ≡ place + 1 = omega arith in
    ap (λ (k : ℕ). stored k (suc place) ws (slice_set core place w)) e ∙ ap (λ (k : ℕ). stored (suc left - 1) k ws (slice_set core place w)) d

pub store_word : (left place i : ℕ) (ws core : List ℕ) → i < length ws → 0 < left →
    stored left place (drop i ws) core ≡ stored (left - 1) (place + 1) (drop (i + 1) ws) (slice_set core place (slice_index ws i))
store_word left place i ws core h k = ap (λ (xs : List ℕ). stored left place xs core) (front ws i h) ∙ store_in left place (slice_index ws i) (drop (i + 1) ws) core k

pub store_outside : (left place i : ℕ) (ws core : List ℕ) → i < length ws → 0 < left → length core ≤ place →
    stored left place (drop i ws) core ≡ stored (left - 1) (place + 1) (drop (i + 1) ws) core
store_outside left place i ws core h k m = store_word left place i ws core h k ∙ ap (stored (left - 1) (place + 1) (drop (i + 1) ws)) (set_outside core place (slice_index ws i) m)

pub store_head : (place i : ℕ) (ws core : List ℕ) → i < length ws →
    stored 0 place (drop i ws) core ≡ stored (decrement_of (slice_index ws i)) (address_of (slice_index ws i)) (drop (i + 1) ws) core
store_head place i ws core h = ap (λ (xs : List ℕ). stored 0 place xs core) (front ws i h)

pub ruleset segments = (next_word, next_segment, empty_segment, past_segment)

pub ruleset stores = (store_word, store_outside, store_head)
