-- Tables of symbols, of their weights, and of the values that they have where a module comes to lie.
use Rattle.std.proofs.Common.{◌≡◌, ℕ, ◌^◌, ◌<◌, ◌≤◌, Bool, true, false, ◌||◌, nat_eq, if◌then◌else◌, List, [], ◌∷◌, ◌++◌, map, Option, Some, None, refl, sym, ap, arith, eqb-true}
use Rattle.std.proofs.lemmas.Bool.Decides.{nat_tests}
use Rattle.fap_model.specs.Places.{value_in}
use Rattle.link_model.specs.Weights.{is_among}
use Rattle.rule_laws.proofs.Sums.{moved_to}

-- two tables of the same symbols, their values and their weights
abbrev pub Aligned : List (ℕ × ℕ) → List (ℕ × ℕ) → Type 0
Aligned [] [] = Unit {0}
Aligned [] (w ∷ weights) = ⊥
Aligned (s ∷ symbols) [] = ⊥
Aligned (s ∷ symbols) (w ∷ weights) = (s.0 ≡ w.0) × (s.1 < 2 ^ 15) × (w.1 ≤ 1) × Aligned symbols weights

-- the values where the first place is another
abbrev pub raised_table : ℕ → List (ℕ × ℕ) → List (ℕ × ℕ) → List (ℕ × ℕ)
raised_table b [] weights = []
raised_table b (s ∷ symbols) [] = []
raised_table b (s ∷ symbols) (w ∷ weights) = (s.0, moved_to b s.1 w.1 0) ∷ raised_table b symbols weights

-- what the three tables say of a symbol
pub data Found (b : ℕ) (x y z : Option ℕ) : Type 0 where
  found_none : x ≡ None → y ≡ None → z ≡ None → Found b x y z
  found_some : (v w : ℕ) → v < 2 ^ 15 → w ≤ 1 → x ≡ Some v → y ≡ Some w → z ≡ Some (moved_to b v w 0) → Found b x y z

pub found_in : (b name : ℕ) (symbols weights : List (ℕ × ℕ)) → Aligned symbols weights
    → Found b (value_in symbols name) (value_in weights name) (value_in (raised_table b symbols weights) name)
found_in b name [] [] h = found_none refl refl refl
found_in b name [] (w ∷ weights) h = absurd h
found_in b name (s ∷ symbols) [] h = absurd h
found_in b name (s ∷ symbols) (w ∷ weights) h = by_test (nat_eq name s.0) refl (found_in b name symbols weights h.3)
  where
    same : nat_eq name w.0 ≡ nat_eq name s.0
    same = ap (λ (n : ℕ). nat_eq name n) (sym h.0)

    by_test : (t : Bool) → nat_eq name s.0 ≡ t
        → Found b (value_in symbols name) (value_in weights name) (value_in (raised_table b symbols weights) name)
        → Found b (value_in (s ∷ symbols) name) (value_in (w ∷ weights) name) (value_in (raised_table b (s ∷ symbols) (w ∷ weights)) name)
    by_test true e rest = found_some s.1 w.1 h.1 h.2 (rw e refl) (rw (same, e) refl) (rw e refl)
    by_test false e rest = rw (same, e) rest

-- names with a value each, before a table
or_self : (b : Bool) → (true || b) ≡ true
or_self b = refl

pub prefix_value : (f : ℕ → ℕ) (externs : List ℕ) (table : List (ℕ × ℕ)) (name : ℕ)
    → value_in (map (λ (n : ℕ). (n, f n)) externs ++ table) name ≡ (if is_among externs name then Some (f name) else value_in table name)
prefix_value f [] table name = refl
prefix_value f (x ∷ externs) table name = by_test (nat_eq name x) refl (prefix_value f externs table name)
  where
    turned : nat_eq x name ≡ nat_eq name x
    turned = grind (arith, nat_tests)

    by_test : (t : Bool) → nat_eq name x ≡ t
        → value_in (map (λ (n : ℕ). (n, f n)) externs ++ table) name ≡ (if is_among externs name then Some (f name) else value_in table name)
        → value_in (map (λ (n : ℕ). (n, f n)) (x ∷ externs) ++ table) name
        ≡ (if is_among (x ∷ externs) name then Some (f name) else value_in table name)
    by_test true e rest =
        let is : name ≡ x = eqb-true name x e in
        rw (turned, e) (ap (λ (n : ℕ). Some (f n)) (sym is))
    by_test false e rest = rw (turned, e) rest
