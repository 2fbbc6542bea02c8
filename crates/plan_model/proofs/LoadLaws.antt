-- Laws of loads.
use Rattle.std.specs.Prelude.{true, false, Bool, not, ◌&&◌, nat_eq, nat_lt, nat_le, if◌then◌else◌}
use Rattle.std.proofs.Common.{◌≡◌, ℕ, zero, suc, ◌+◌, ◌-◌, ◌<◌, ◌≤◌, refl, ◌∙◌, ap, arith, eq-eqb}
use Rattle.std.proofs.lemmas.Bool.Decides.{nat_tests}
use Rattle.plan_model.specs.Loads.{Places, core_places, count_below, owned, is_loaded, is_other, others_from, first_least, stays, base_for, put_out, is_within, is_read, based, brought_in, loaded, dumps, reads}
use Rattle.plan_model.proofs.Counts.{count_none, apart_counts, count_part, count_more}

pub core_places_is : core_places ≡ 128
unfolding core_places
core_places_is = refl

pub within_at : (p : Places) (u n b : ℕ) → b < n → is_within p u n (p.base u + b) ≡ true
within_at p u n b below =
    let low : nat_le (p.base u) (p.base u + b) ≡ true = grind (arith, nat_tests) in
    let high : nat_lt (p.base u + b) (p.base u + n) ≡ true = grind (arith, nat_tests) in
    rw (low, high) refl

-- a load is done once
pub loaded_is : (p : Places) (u n : ℕ) → is_loaded (loaded p u n) u n ≡ true
unfolding loaded
loaded_is p u n =
    let q : Places = based p u n in
    let mine : (b : ℕ) → b < n → not (nat_eq (if is_within q u n (q.base u + b) then u else q.owner (q.base u + b)) u) ≡ false
    = λ b below. ap (λ (t : Bool). not (nat_eq (if t then u else q.owner (q.base u + b)) u)) (within_at q u n b below) ∙ ap not (eq-eqb u u refl) in
    ap (λ (k : ℕ). nat_eq k 0) (count_none n _ mine)

-- a user's places and those of others are together no more than there are
pub owned_and_others : (owner : ℕ → ℕ) (u n b : ℕ) → b + n ≤ 128 → owned owner u + others_from owner u n b ≤ 128
owned_and_others owner u n b fits =
    let rest : b + n + (128 - (b + n)) ≡ core_places = omega (arith, core_places_is) in
    let mine : ℕ → Bool = λ q. nat_eq (owner q) u in
    let others : ℕ → Bool = λ q. is_other (owner q) u in
    let both = apart_counts core_places mine others (λ q is. ap (λ (t : Bool). not t && not (nat_eq (owner q) 0)) is) in
    let part = count_part others n b in
    let whole : count_below (b + n) others ≤ count_below (b + n + (128 - (b + n))) others = count_more others (b + n) (128 - (b + n)) in
    let all : count_below (b + n + (128 - (b + n))) others ≡ count_below core_places others = ap (λ (k : ℕ). count_below k others) rest in
    omega (arith, core_places_is)

-- the first of the least is one of the numbers
pub least_below : (m : ℕ) (f : ℕ → ℕ) → first_least m f ≤ m
least_below zero f = omega arith
least_below (suc m) f = by_test (nat_lt (f (suc m)) (f (first_least m f))) (first_least m f) (least_below m f)
  where
    by_test : (t : Bool) (k : ℕ) → k ≤ m → let which : ℕ = (if t then suc m else k) in which ≤ suc m
    by_test true k le = omega arith
    by_test false k le = omega arith

-- a load where the user stays, and where it doesn't

pub base_stays : (p : Places) (u n : ℕ) → stays p u n ≡ true → base_for p u n ≡ p.base u
unfolding base_for
base_stays p u n is = ap (λ (t : Bool). if t then p.base u else first_least (128 - n) (others_from p.owner u n)) is

pub base_moves : (p : Places) (u n : ℕ) → stays p u n ≡ false → base_for p u n ≡ first_least (128 - n) (others_from p.owner u n)
unfolding base_for
base_moves p u n is = ap (λ (t : Bool). if t then p.base u else first_least (128 - n) (others_from p.owner u n)) is

pub based_stays : (p : Places) (u n : ℕ) → stays p u n ≡ true → based p u n ≡ p
unfolding based
based_stays p u n is = ap (λ (t : Bool). if t then p else put_out p u (base_for p u n)) is

pub based_moves : (p : Places) (u n : ℕ) → stays p u n ≡ false → based p u n ≡ put_out p u (base_for p u n)
unfolding based
based_moves p u n is = ap (λ (t : Bool). if t then p else put_out p u (base_for p u n)) is

pub dumps_stays : (p : Places) (u n : ℕ) → stays p u n ≡ true → dumps p u n ≡ others_from p.owner u n (base_for p u n)
unfolding dumps
dumps_stays p u n is =
    let none : 0 + others_from p.owner u n (base_for p u n) ≡ others_from p.owner u n (base_for p u n) = omega arith in
    ap (λ (t : Bool). (if t then 0 else owned p.owner u) + others_from p.owner u n (base_for p u n)) is ∙ none

pub dumps_moves : (p : Places) (u n : ℕ) → stays p u n ≡ false → dumps p u n ≡ owned p.owner u + others_from p.owner u n (base_for p u n)
unfolding dumps
dumps_moves p u n is = ap (λ (t : Bool). (if t then 0 else owned p.owner u) + others_from p.owner u n (base_for p u n)) is

pub reads_based : (p q : Places) (u n : ℕ) → based p u n ≡ q → reads p u n ≡ count_below n (is_read q u)
unfolding reads
reads_based p q u n is = ap (λ (r : Places). count_below n (is_read r u)) is

pub loaded_based : (p q : Places) (u n : ℕ) → based p u n ≡ q → loaded p u n ≡ brought_in q u n
unfolding loaded
loaded_based p q u n is = ap (λ (r : Places). brought_in r u n) is
