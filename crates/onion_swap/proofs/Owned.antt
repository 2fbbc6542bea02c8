-- Owners of places.
use Rattle.std.specs.Prelude.{Bool, true, false, not, ◌&&◌, ◌||◌, nat_eq, if◌then◌else◌, replicate}
use Rattle.std.proofs.Common.{◌≡◌, ◌≢◌, ◌⊎◌, inl, inr, ℕ, zero, suc, ◌+◌, ◌<◌, ◌≤◌, List, [], ◌∷◌, length, refl, sym, ◌∙◌, ap, arith, eq-eqb, add-one}
use mathlib.Core.Bool.{beq}
use Rattle.std.proofs.lemmas.Bool.{cases_eq}
use Rattle.std.proofs.lemmas.Bool.Decides.{nat_tests}
use Rattle.plan_model.specs.Loads.{Places, count_below, core_places, owned, is_other, others_from, is_in, is_read, is_fresh, stays, based, base_for, put_out, reads, clears}
use Rattle.plan_model.proofs.LoadLaws.{core_places_is}
use Rattle.plan_model.proofs.Counts.{count_same, count_none, count_most, slide}
use Rattle.onion_swap.specs.Places.{first_layout, owner_of, IsLayout}
use Rattle.std.proofs.lemmas.List.{length-replicate}
use Rattle.onion_swap.specs.Brought.{comes_back, comes_fresh}

-- a place past the last has no owner
pub none_past : (owners : List ℕ) (b : ℕ) → length owners ≤ b → owner_of owners b ≡ 0
none_past [] b past = refl
none_past (v ∷ owners) zero past = absurd (omega arith)
none_past (v ∷ owners) (suc b) past = none_past owners b (omega arith)

-- what holds of the places that a loop has reached holds of all, once it has reached the last
pub gone_from : (new old : List ℕ) (u m n : ℕ) → length new ≤ n
    → ((b : ℕ) → m ≤ b → b < n → owner_of old b ≡ u → owner_of new b ≡ 0)
    → (b : ℕ) → m ≤ b → owner_of old b ≡ u → owner_of new b ≡ 0
gone_from new old u m n all gone b low is = elim (below_or b n) [
  | inl below ↦ gone b low below is
  | inr past ↦ none_past new b (omega arith)
]
  where
    below_or : (b n : ℕ) → (b < n) ⊎ (n ≤ b)
    below_or b n = grind arith

-- all places were counted
pub owned_is : (owner : ℕ → ℕ) (u n : ℕ) → n ≡ 128 → count_below n (λ q. nat_eq (owner q) u) ≡ owned owner u
owned_is owner u n all = ap (λ (k : ℕ). count_below k (λ q. nat_eq (owner q) u)) (all ∙ sym core_places_is)

-- a user that owns no place
pub none_owned : (owner : ℕ → ℕ) (u : ℕ) → ((q : ℕ) → owner q ≢ u) → owned owner u ≡ 0
none_owned owner u none = count_none core_places (λ q. nat_eq (owner q) u) (λ q below. not_here q)
  where
    not_here : (q : ℕ) → nat_eq (owner q) u ≡ false
    not_here q = let other : owner q ≢ u = none q in grind (arith, nat_tests)

-- behind its own dumps a user has no block in core
not_out : (p : Places) (u base b : ℕ) → 1 ≤ u → is_in (put_out p u base) u b ≡ false
not_out p u base b some = by_owner (p.owner ((if nat_eq u u then base else p.base u) + b))
  where
    by_owner : (v : ℕ) → nat_eq (if nat_eq v u then 0 else v) u ≡ false
    by_owner v = elim (cases_eq v u) [
      | inl mine ↦
          let yes : nat_eq v u ≡ true = eq-eqb v u mine in
          let none : nat_eq 0 u ≡ false = grind (arith, nat_tests) in
          ap (λ (t : Bool). nat_eq (if t then 0 else v) u) yes ∙ none
      | inr them ↦
          let away : nat_eq v u ≡ false = grind (arith, nat_tests) in
          ap (λ (t : Bool). nat_eq (if t then 0 else v) u) away ∙ away
    ]

reads_one : (p : Places) (u n b : ℕ) → 1 ≤ u → is_read (based p u n) u b ≡ comes_back (stays p u n) (is_in p u b) (p.kept u b)
unfolding based
reads_one p u n b some = by_test (stays p u n) (base_for p u n)
  where
    here : (h k : Bool) → (not h && k) ≡ (not h && (h || k))
    here true k = refl
    here false k = refl

    out : (i k h : Bool) → i ≡ false → (not i && (k || h)) ≡ (h || k)
    out false true true e = refl
    out false true false e = refl
    out false false true e = refl
    out false false false e = refl
    out true k h e = absurd (cc)

    by_test : (t : Bool) (base : ℕ) → is_read (if t then p else put_out p u base) u b ≡ comes_back t (is_in p u b) (p.kept u b)
    by_test true base = here (is_in p u b) (p.kept u b)
    by_test false base =
        let me : nat_eq u u ≡ true = eq-eqb u u refl in
        (λ j. not (is_in (put_out p u base) u b) && (p.kept u b || (me j && is_in p u b)))
        ∙ out (is_in (put_out p u base) u b) (p.kept u b) (is_in p u b) (not_out p u base b some)

clears_one : (p : Places) (u n b : ℕ) → 1 ≤ u → is_fresh (based p u n) u b ≡ comes_fresh (is_in p u b) (p.kept u b)
unfolding based
clears_one p u n b some = by_test (stays p u n) (base_for p u n)
  where
    out : (i k h : Bool) → i ≡ false → (not i && not (k || h)) ≡ (not h && not k)
    out false true true e = refl
    out false true false e = refl
    out false false true e = refl
    out false false false e = refl
    out true k h e = absurd (cc)

    by_test : (t : Bool) (base : ℕ) → is_fresh (if t then p else put_out p u base) u b ≡ comes_fresh (is_in p u b) (p.kept u b)
    by_test true base = refl
    by_test false base =
        let me : nat_eq u u ≡ true = eq-eqb u u refl in
        (λ j. not (is_in (put_out p u base) u b) && not (p.kept u b || (me j && is_in p u b)))
        ∙ out (is_in (put_out p u base) u b) (p.kept u b) (is_in p u b) (not_out p u base b some)

-- what a load reads and clears, told of the places as they were
pub reads_are : (p : Places) (u n : ℕ) → 1 ≤ u → reads p u n ≡ count_below n (λ b. comes_back (stays p u n) (is_in p u b) (p.kept u b))
unfolding reads
reads_are p u n some = count_same n _ _ (λ b below. reads_one p u n b some)

pub clears_are : (p : Places) (u n : ℕ) → 1 ≤ u → clears p u n ≡ count_below n (λ b. comes_fresh (is_in p u b) (p.kept u b))
unfolding clears
clears_are p u n some = count_same n _ _ (λ b below. clears_one p u n b some)

-- the owners at first
none_in : (n b : ℕ) → owner_of (replicate n 0) b ≡ 0
none_in zero b = refl
none_in (suc n) zero = refl
none_in (suc n) (suc b) = none_in n b

pub first_layout_is : IsLayout first_layout
first_layout_is = record { places = length-replicate {A = ℕ} 128 0; numbers = length-replicate {A = ℕ} 31 0; inside = λ u. let e = none_in 31 u in omega arith }

-- the others in the places from the next one on
pub slid_is : (owner : ℕ → ℕ) (u n b count : ℕ) (first last : Bool) → first ≡ is_other (owner b) u → last ≡ is_other (owner (b + n)) u → count ≡ others_from owner u n b
    → let after : ℕ = others_from owner u n (b + 1) + (if first then 1 else 0) in after ≡ count + (if last then 1 else 0)
slid_is owner u n b count first last one two so_far =
    ap (λ (m : ℕ). others_from owner u n m + (if first then 1 else 0)) (add-one b)
    ∙ (λ j. others_from owner u n (suc b) + (if one j then 1 else 0))
    ∙ slide (λ q. is_other (owner q) u) n b
    ∙ (λ j. sym so_far j + (if sym two j then 1 else 0))

pub slid_same : (owner : ℕ → ℕ) (u n b count : ℕ) (first last : Bool) → first ≡ is_other (owner b) u → last ≡ is_other (owner (b + n)) u → count ≡ others_from owner u n b → beq first last ≡ true
    → count ≡ others_from owner u n (b + 1)
slid_same owner u n b count first last one two so_far same = by_test first last same (slid_is owner u n b count first last one two so_far)
  where
    by_test : (s t : Bool) → beq s t ≡ true → (let after : ℕ = others_from owner u n (b + 1) + (if s then 1 else 0) in after ≡ count + (if t then 1 else 0)) → count ≡ others_from owner u n (b + 1)
    by_test true true e h = omega arith
    by_test false false e h = omega arith
    by_test true false e h = absurd (cc)
    by_test false true e h = absurd (cc)

pub slid_more : (owner : ℕ → ℕ) (u n b count : ℕ) (first last : Bool) → first ≡ is_other (owner b) u → last ≡ is_other (owner (b + n)) u → count ≡ others_from owner u n b → beq first last ≡ false → last ≡ true
    → count + 1 ≡ others_from owner u n (b + 1)
slid_more owner u n b count first last one two so_far other is = by_test first last other is (slid_is owner u n b count first last one two so_far)
  where
    by_test : (s t : Bool) → beq s t ≡ false → t ≡ true → (let after : ℕ = others_from owner u n (b + 1) + (if s then 1 else 0) in after ≡ count + (if t then 1 else 0)) → count + 1 ≡ others_from owner u n (b + 1)
    by_test true true e f h = absurd (cc)
    by_test false true e f h = omega arith
    by_test true false e f h = absurd (cc)
    by_test false false e f h = absurd (cc)

pub slid_less : (owner : ℕ → ℕ) (u n b count : ℕ) (first last : Bool) → first ≡ is_other (owner b) u → last ≡ is_other (owner (b + n)) u → count ≡ others_from owner u n b → beq first last ≡ false → last ≡ false
    → others_from owner u n (b + 1) + 1 ≡ count
slid_less owner u n b count first last one two so_far other is = by_test first last other is (slid_is owner u n b count first last one two so_far)
  where
    by_test : (s t : Bool) → beq s t ≡ false → t ≡ false → (let after : ℕ = others_from owner u n (b + 1) + (if s then 1 else 0) in after ≡ count + (if t then 1 else 0)) → others_from owner u n (b + 1) + 1 ≡ count
    by_test false false e f h = absurd (cc)
    by_test true false e f h = omega arith
    by_test true true e f h = absurd (cc)
    by_test false true e f h = absurd (cc)

pub others_most : (owner : ℕ → ℕ) (u n b : ℕ) → others_from owner u n b ≤ n
others_most owner u n b = count_most n (λ k. is_other (owner (b + k)) u)

pub not_moved : (a b : Bool) → (a && b) ≡ true → false ≡ (a && not b)
not_moved true true e = refl
not_moved true false e = absurd (cc)
not_moved false b e = refl

pub moved_is : (a b : Bool) → (a && b) ≡ false → a ≡ (a && not b)
moved_is true true e = absurd (cc)
moved_is true false e = refl
moved_is false b e = refl
