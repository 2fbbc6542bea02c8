-- The value of an expression where its module comes to lie.
use Rattle.std.proofs.Common.{◌≡◌, ℕ, ◌+◌, ◌%◌, ◌^◌, ◌<◌, ◌≤◌, Bool, true, false, if◌then◌else◌, List, [], ◌∷◌, Option, Some, None, refl, sym, ap, ◌∙◌, arith}
use Rattle.std.specs.Option.{option_and_then}
use Rattle.fap_model.specs.declared.types.Term.{Term}
use Rattle.fap_model.specs.declared.types.Term.TheVariants.{Named, Number, Here}
use Rattle.fap_model.specs.Terms.{Signed}
use Rattle.fap_model.specs.Places.{value_in, term_value, with_term, value_from, value_of, or_zero}
use Rattle.link_model.specs.Weights.{term_weight, weight_from, weight_of, with_externs, is_among, names_extern, externs_in}
use Rattle.link_model.specs.Laid.{with_values}
use Rattle.rule_laws.proofs.Sums.{moved_to, term_moved}
use Rattle.rule_laws.proofs.Tables.{Aligned, raised_table, Found, found_none, found_some, found_in, prefix_value}

-- a module's symbols and weights, its externs, and what these are worth where it comes to lie
pub record Setting : Type 0 where
  pub base : ℕ
  pub entries : List (ℕ × ℕ)
  pub externs : List ℕ
  pub symbols : List (ℕ × ℕ)
  pub weights : List (ℕ × ℕ)

abbrev pub names_here : Setting → List (ℕ × ℕ)
names_here s = with_externs s.externs s.symbols

abbrev pub weights_here : Setting → List (ℕ × ℕ)
weights_here s = with_externs s.externs s.weights

abbrev pub names_there : Setting → List (ℕ × ℕ)
names_there s = with_values s.entries s.externs (raised_table s.base s.symbols s.weights)

pub record IsSound (s : Setting) : Type 0 where
  pub aligned : Aligned s.symbols s.weights
  pub small : (name : ℕ) → or_zero (value_in s.entries name) < 2 ^ 15

abbrev pub IsShortTerm : Term → Type 0
IsShortTerm (Named name) = Unit {0}
IsShortTerm (Number n) = n < 2 ^ 15
IsShortTerm Here = Unit {0}

abbrev pub AreShort : List Signed → Type 0
AreShort [] = Unit {0}
AreShort (t ∷ ts) = IsShortTerm t.1 × AreShort ts

-- what a term adds as an extern
abbrev pub extern_worth : Setting → Term → ℕ
extern_worth s (Named name) = if is_among s.externs name then or_zero (value_in s.entries name) else 0
extern_worth s (Number n) = 0
extern_worth s Here = 0

abbrev pub extern_from : Setting → ℕ → List Signed → ℕ
extern_from s sum [] = sum
extern_from s sum (t ∷ ts) = extern_from s (with_term sum t.0 (extern_worth s t.1)) ts

-- one term

pub record Moves (s : Setting) (p v : ℕ) (t : Term) : Type 0 where
  pub value : v < 2 ^ 15
  pub weight : term_weight (weights_here s) t ≤ 1
  pub extern : extern_worth s t < 2 ^ 15
  pub there : term_value (names_there s) (s.base + p) t ≡ Some (moved_to s.base v (term_weight (weights_here s) t) (extern_worth s t))

some_is : (v w : ℕ) → Some v ≡ Some w → v ≡ w
some_is v w h = ap or_zero h

number_stays : (b n : ℕ) → n < 2 ^ 15 → n ≡ moved_to b n 0 0
number_stays b n h = omega (arith, h)

here_moves : (b p : ℕ) → (b + p) % 2 ^ 15 ≡ moved_to b (p % 2 ^ 15) 1 0
here_moves b p = omega arith

extern_moves : (b e : ℕ) → e < 2 ^ 15 → e ≡ moved_to b 0 0 e
extern_moves b e h = omega (arith, h)

zero_small : 0 < 2 ^ 15
zero_small = omega arith

zero_light : 0 ≤ 1
zero_light = omega arith

one_light : 1 ≤ 1
one_light = omega arith

place_small : (p : ℕ) → p % 2 ^ 15 < 2 ^ 15
place_small p = omega arith

named_moves : (s : Setting) → IsSound s → (p v name : ℕ) → value_in (names_here s) name ≡ Some v → Moves s p v (Named name)
named_moves s h p v name e = by_test (is_among s.externs name) refl
  where
    here : value_in (names_here s) name ≡ (if is_among s.externs name then Some 0 else value_in s.symbols name)
    here = prefix_value (λ n. 0) s.externs s.symbols name

    weight : value_in (weights_here s) name ≡ (if is_among s.externs name then Some 0 else value_in s.weights name)
    weight = prefix_value (λ n. 0) s.externs s.weights name

    there : value_in (names_there s) name
        ≡ (if is_among s.externs name then Some (or_zero (value_in s.entries name)) else value_in (raised_table s.base s.symbols s.weights) name)
    there = prefix_value (λ n. or_zero (value_in s.entries n)) s.externs (raised_table s.base s.symbols s.weights) name

    by_found : Found s.base (value_in s.symbols name) (value_in s.weights name) (value_in (raised_table s.base s.symbols s.weights) name)
        → is_among s.externs name ≡ false → Moves s p v (Named name)
    by_found (found_none x y z) t =
        let none : Some v ≡ None = sym e ∙ here ∙ rw t x in absurd (cc)
    by_found (found_some a w small light x y z) t =
        let is : v ≡ a = some_is v a (sym e ∙ here ∙ rw t x) in
        let weight_is : value_in (weights_here s) name ≡ Some w = weight ∙ rw t y in
        let weighs : or_zero (value_in (weights_here s) name) ≡ w = ap or_zero weight_is in
        record {
          value = rw is small;
          weight = rw weighs light;
          extern = rw t zero_small;
          there = there ∙ rw (t, weighs, is) z;
        }

    by_test : (t : Bool) → is_among s.externs name ≡ t → Moves s p v (Named name)
    by_test true t =
        let is : v ≡ 0 = some_is v 0 (sym e ∙ here ∙ rw t refl) in
        let weight_is : value_in (weights_here s) name ≡ Some 0 = weight ∙ rw t refl in
        let weighs : or_zero (value_in (weights_here s) name) ≡ 0 = ap or_zero weight_is in
        record {
          value = rw is zero_small;
          weight = rw weighs zero_light;
          extern = rw t (h.small name);
          there = there ∙ rw (t, weighs, is) (ap (λ (n : ℕ). Some n) (extern_moves s.base (or_zero (value_in s.entries name)) (h.small name)));
        }
    by_test false t = by_found (found_in s.base name s.symbols s.weights h.aligned) t

pub term_moves : (s : Setting) → IsSound s → (p v : ℕ) (t : Term) → IsShortTerm t → term_value (names_here s) p t ≡ Some v → Moves s p v t
term_moves s h p v (Named name) short e = named_moves s h p v name e
term_moves s h p v (Number n) short e =
    let is : v ≡ n = some_is v n (sym e) in
    record {
      value = rw is short;
      weight = zero_light;
      extern = zero_small;
      there = rw is (ap (λ (x : ℕ). Some x) (number_stays s.base n short));
    }
term_moves s h p v Here short e =
    let is : v ≡ p % 2 ^ 15 = some_is v (p % 2 ^ 15) (sym e) in
    record {
      value = rw is (place_small p);
      weight = one_light;
      extern = zero_small;
      there = rw is (ap (λ (x : ℕ). Some x) (here_moves s.base p));
    }

-- many terms

pub value_moves : (s : Setting) → IsSound s → (p : ℕ) (ts : List Signed) → AreShort ts → (sum sw se v : ℕ)
    → value_from (names_here s) p sum ts ≡ Some v
    → value_from (names_there s) (s.base + p) (moved_to s.base sum sw se) ts
    ≡ Some (moved_to s.base v (weight_from (weights_here s) sw ts) (extern_from s se ts))
value_moves s h p [] short sum sw se v e = ap (λ (x : ℕ). Some (moved_to s.base x sw se)) (some_is sum v e)
value_moves s h p (t ∷ ts) short sum sw se v e =
    by_value (term_value (names_here s) p t.1) refl (λ a b c rest. value_moves s h p ts short.1 a b c v rest)
  where
    by_value : (o : Option ℕ) → term_value (names_here s) p t.1 ≡ o
        → ((a b c : ℕ) → value_from (names_here s) p a ts ≡ Some v
        → value_from (names_there s) (s.base + p) (moved_to s.base a b c) ts
        ≡ Some (moved_to s.base v (weight_from (weights_here s) b ts) (extern_from s c ts)))
        → value_from (names_there s) (s.base + p) (moved_to s.base sum sw se) (t ∷ ts)
        ≡ Some (moved_to s.base v (weight_from (weights_here s) sw (t ∷ ts)) (extern_from s se (t ∷ ts)))
    by_value None none ih =
        let no : None ≡ Some v = sym (ap (λ (o : Option ℕ). option_and_then (λ (x : ℕ). value_from (names_here s) p (with_term sum t.0 x) ts) o) none) ∙ e in
        absurd cc
    by_value (Some x) some ih =
        let rest : value_from (names_here s) p (with_term sum t.0 x) ts ≡ Some v =
        sym (ap (λ (o : Option ℕ). option_and_then (λ (x : ℕ). value_from (names_here s) p (with_term sum t.0 x) ts) o) some) ∙ e in
        let m : Moves s p x t.1 = term_moves s h p x t.1 short.0 some in
        let w : ℕ = term_weight (weights_here s) t.1 in
        let g : ℕ = extern_worth s t.1 in
        ap (λ (o : Option ℕ). option_and_then (λ (y : ℕ). value_from (names_there s) (s.base + p) (with_term (moved_to s.base sum sw se) t.0 y) ts) o) m.there
        ∙ ap (λ (y : ℕ). value_from (names_there s) (s.base + p) y ts) (term_moved s.base sum sw se t.0 x w g m.value m.weight m.extern)
        ∙ ih (with_term sum t.0 x) (with_term sw t.0 w) (with_term se t.0 g) rest

nothing_moves : (b : ℕ) → 0 ≡ moved_to b 0 0 0
nothing_moves b = omega arith

pub whole_moves : (s : Setting) → IsSound s → (p : ℕ) (ts : List Signed) → AreShort ts → (v : ℕ) → value_of (names_here s) p ts ≡ Some v
    → value_of (names_there s) (s.base + p) ts ≡ Some (moved_to s.base v (weight_of (weights_here s) ts) (extern_from s 0 ts))
whole_moves s h p ts short v e =
    ap (λ (n : ℕ). value_from (names_there s) (s.base + p) n ts) (nothing_moves s.base) ∙ value_moves s h p ts short 0 0 0 v e

-- without externs

with_nothing : (sum : ℕ) (minus : Bool) → sum < 2 ^ 15 → with_term sum minus 0 ≡ sum
with_nothing sum false h = omega (arith, h)
with_nothing sum true h = omega (arith, h)

no_worth : (s : Setting) (t : Term) → names_extern s.externs t ≡ false → extern_worth s t ≡ 0
no_worth s (Named name) h = rw h refl
no_worth s (Number n) h = refl
no_worth s Here h = refl

a_name : (s : Setting) (t : Term) → names_extern s.externs t ≡ true → (name : ℕ) × (t ≡ Named name) × (is_among s.externs name ≡ true)
a_name s (Named name) h = (name, refl, h)
a_name s (Number n) h = absurd cc
a_name s Here h = absurd cc

pub no_externs : (s : Setting) (ts : List Signed) (sum : ℕ) → sum < 2 ^ 15 → externs_in s.externs ts ≡ [] → extern_from s sum ts ≡ sum
no_externs s [] sum small h = refl
no_externs s (t ∷ ts) sum small h = by_test (names_extern s.externs t.1) refl (λ rest. no_externs s ts sum small rest)
  where
    by_test : (b : Bool) → names_extern s.externs t.1 ≡ b → (externs_in s.externs ts ≡ [] → extern_from s sum ts ≡ sum) → extern_from s sum (t ∷ ts) ≡ sum
    by_test true e ih =
        let some : t ∷ externs_in s.externs ts ≡ [] = sym (ap (λ (b : Bool). if b then t ∷ externs_in s.externs ts else externs_in s.externs ts) e) ∙ h in
        absurd cc
    by_test false e ih =
        let rest : externs_in s.externs ts ≡ [] = sym (ap (λ (b : Bool). if b then t ∷ externs_in s.externs ts else externs_in s.externs ts) e) ∙ h in
        ap (λ (n : ℕ). extern_from s n ts) (ap (λ (g : ℕ). with_term sum t.0 g) (no_worth s t.1 e) ∙ with_nothing sum t.0 small)
        ∙ ih rest

first_added : (e : ℕ) → e < 2 ^ 15 → with_term 0 false e ≡ e
first_added e h = omega (arith, h)

-- one extern, added
pub one_extern : (s : Setting) → IsSound s → (ts : List Signed) (name : ℕ) → externs_in s.externs ts ≡ (false, Named name) ∷ []
    → extern_from s 0 ts ≡ or_zero (value_in s.entries name)
one_extern s sound [] name h = absurd cc
one_extern s sound (t ∷ ts) name h = by_test (names_extern s.externs t.1) refl (λ rest. one_extern s sound ts name rest)
  where
    chosen : (b : Bool) → names_extern s.externs t.1 ≡ b
        → (if b then t ∷ externs_in s.externs ts else externs_in s.externs ts) ≡ (false, Named name) ∷ []
    chosen b e = sym (ap (λ (b : Bool). if b then t ∷ externs_in s.externs ts else externs_in s.externs ts) e) ∙ h

    by_test : (b : Bool) → names_extern s.externs t.1 ≡ b
        → (externs_in s.externs ts ≡ (false, Named name) ∷ [] → extern_from s 0 ts ≡ or_zero (value_in s.entries name))
        → extern_from s 0 (t ∷ ts) ≡ or_zero (value_in s.entries name)
    by_test true e ih =
        let first : t ≡ (false, Named name) = cc in
        let rest : externs_in s.externs ts ≡ [] = cc in
        let among : names_extern s.externs (Named name) ≡ true = ap (λ (x : Signed). names_extern s.externs x.1) (sym first) ∙ e in
        let worth : extern_worth s (Named name) ≡ or_zero (value_in s.entries name) = rw among refl in
        ap (λ (x : Signed). extern_from s (with_term 0 x.0 (extern_worth s x.1)) ts) first
        ∙ ap (λ (n : ℕ). extern_from s n ts)
        (ap (λ (g : ℕ). with_term 0 false g) worth ∙ first_added (or_zero (value_in s.entries name)) (sound.small name))
        ∙ no_externs s ts (or_zero (value_in s.entries name)) (sound.small name) rest
    by_test false e ih =
        ap (λ (n : ℕ). extern_from s n ts) (ap (λ (g : ℕ). with_term 0 t.0 g) (no_worth s t.1 e) ∙ with_nothing 0 t.0 zero_small)
        ∙ ih (chosen false e)
