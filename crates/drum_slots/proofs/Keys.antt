-- Each pair of a user and a block below its quota has a place of its own.
use Rattle.std.specs.Prelude.{sum}
use Rattle.std.proofs.Common.{◌≡◌, ◌≢◌, ℕ, zero, suc, ◌+◌, ◌<◌, ◌≤◌, List, [], ◌∷◌, length, take, refl, arith, ◌∙◌}
use Rattle.std.proofs.lemmas.List.Sums.{sum_by-cons}
use Rattle.drum_slots.specs.Keys.{quota_of, key}

-- the sum of a list with one more at its front
head_sum : (q : ℕ) (qs : List ℕ) → sum (q ∷ qs) ≡ q + sum qs
head_sum q qs = sum_by-cons (λ (n : ℕ). n) q qs

-- a quota of 0 at the front counts for nothing
pub sum-cons_zero : (qs : List ℕ) → sum (0 ∷ qs) ≡ sum qs
sum-cons_zero qs = head_sum 0 qs ∙ omega arith

-- the place of a block below its quota is a place of the table
pub key_below : (qs : List ℕ) (u b : ℕ) → b < quota_of qs u → key qs u b < sum qs
key_below [] u b within = absurd (omega arith)
key_below (q ∷ qs) zero b within = let below : b < q = within in let e : sum (q ∷ qs) ≡ q + sum qs = head_sum q qs in let f : sum (take zero (q ∷ qs)) ≡ 0 = refl in omega arith
key_below (q ∷ qs) (suc u) b within = let e : sum (q ∷ qs) ≡ q + sum qs = head_sum q qs in let f : sum (take (suc u) (q ∷ qs)) ≡ q + sum (take u qs) = head_sum q (take u qs) in omega (arith, key_below qs u b within)

-- a user with a quota is one of the users
pub user_below : (qs : List ℕ) (u b : ℕ) → b < quota_of qs u → u < length qs
user_below [] u b within = absurd (omega arith)
user_below (q ∷ qs) zero b within = omega arith
user_below (q ∷ qs) (suc u) b within = omega (arith, user_below qs u b within)

-- the users before one have no more places than all users
pub start_le : (qs : List ℕ) (u : ℕ) → sum (take u qs) ≤ sum qs
start_le [] zero = omega arith
start_le [] (suc u) = omega arith
start_le (q ∷ qs) zero = let f : sum (take zero (q ∷ qs)) ≡ 0 = refl in omega arith
start_le (q ∷ qs) (suc u) = let e : sum (q ∷ qs) ≡ q + sum qs = head_sum q qs in let f : sum (take (suc u) (q ∷ qs)) ≡ q + sum (take u qs) = head_sum q (take u qs) in omega (arith, start_le qs u)

-- a place is that of one user's block alone
same_key : (qs : List ℕ) (u v b c : ℕ) → b < quota_of qs u → c < quota_of qs v → key qs u b ≡ key qs v c → (u ≡ v) × (b ≡ c)
same_key [] u v b c one two same = absurd (omega arith)
same_key (q ∷ qs) zero zero b c one two same = let f : sum (take zero (q ∷ qs)) ≡ 0 = refl in (refl, omega arith)
same_key (q ∷ qs) zero (suc v) b c one two same =
    let below : b < q = one in let f : sum (take zero (q ∷ qs)) ≡ 0 = refl in
    let e : sum (take (suc v) (q ∷ qs)) ≡ q + sum (take v qs) = head_sum q (take v qs) in absurd (omega arith)
same_key (q ∷ qs) (suc u) zero b c one two same =
    let below : c < q = two in let f : sum (take zero (q ∷ qs)) ≡ 0 = refl in
    let e : sum (take (suc u) (q ∷ qs)) ≡ q + sum (take u qs) = head_sum q (take u qs) in absurd (omega arith)
same_key (q ∷ qs) (suc u) (suc v) b c one two same =
    let e : sum (take (suc u) (q ∷ qs)) ≡ q + sum (take u qs) = head_sum q (take u qs) in
    let f : sum (take (suc v) (q ∷ qs)) ≡ q + sum (take v qs) = head_sum q (take v qs) in
    let inner : key qs u b ≡ key qs v c = omega arith in
    let both : (u ≡ v) × (b ≡ c) = same_key qs u v b c one two inner in
    (ap_suc u v both.0, both.1)
  where
    ap_suc : (m n : ℕ) → m ≡ n → suc m ≡ suc n
    ap_suc m n h = omega arith

-- other blocks have other places, of whichever users
pub key_other_block : (qs : List ℕ) (u v b c : ℕ) → b < quota_of qs u → c < quota_of qs v → b ≢ c → key qs u b ≢ key qs v c
key_other_block qs u v b c one two other same = other ((same_key qs u v b c one two same).1)

-- other users have other places, for whichever blocks
pub key_other_user : (qs : List ℕ) (u v b c : ℕ) → b < quota_of qs u → c < quota_of qs v → u ≢ v → key qs u b ≢ key qs v c
key_other_user qs u v b c one two other same = other ((same_key qs u v b c one two same).0)
