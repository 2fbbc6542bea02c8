-- The numbers of a card's expressions are below 2^15.
use Rattle.std.proofs.Common.{◌≡◌, ℕ, ◌<◌, ◌≤◌, ◌^◌, Bool, true, false, ◌&&◌, if◌then◌else◌, nat_eq, nat_le, nat_lt, List, [], ◌∷◌, length, Option, Some, None, refl, subst, arith, leb-true, bytes_eq, codes, filter, zip}
use Rattle.std.specs.Option.{option_map, option_and_then}
use Rattle.std.specs.List.{list_all, slice_split}
use Rattle.std.specs.Str.Parse.{digits_value}
use Rattle.ctss_types.specs.Words.{name_of}
use Rattle.fap_model.specs.Cards.{is_digit, is_symbol}
use Rattle.fap_model.specs.declared.types.Term.{Term}
use Rattle.fap_model.specs.declared.types.Term.TheVariants.{Named, Number, Here}
use Rattle.fap_model.specs.Terms.{term_of, Signed, signed_all, expression, is_sign}
use Rattle.rule_laws.proofs.Values.{IsShortTerm, AreShort}

-- what an option that has a value is made of
pub mapped : {A B : Type 0} (f : A → B) (o : Option A) (y : B) → option_map f o ≡ Some y → (x : A) × (o ≡ Some x) × (f x ≡ y)
mapped f None y h = absurd cc
mapped f (Some x) y h = (x, refl, cc)

pub chained : {A B : Type 0} (f : A → Option B) (o : Option A) (y : B) → option_and_then f o ≡ Some y → (x : A) × (o ≡ Some x) × (f x ≡ Some y)
chained f None y h = absurd cc
chained f (Some x) y h = (x, refl, h)

number_short : (text : List ℕ) (b : Bool) (t : Term) → nat_le (digits_value 10 text) 32767 ≡ b
    → (if b then Some (Number (digits_value 10 text)) else None) ≡ Some t → IsShortTerm t
number_short text true t e h =
    let small : digits_value 10 text ≤ 32767 = leb-true (digits_value 10 text) 32767 e in
    let below : digits_value 10 text < 2 ^ 15 = omega (arith, small) in
    subst IsShortTerm (some_term (Number (digits_value 10 text)) t h) below
  where
    some_term : (a b : Term) → Some a ≡ Some b → a ≡ b
    some_term a b e = cc
number_short text false t e h = absurd cc

term_short : (a b c d : Bool) (text : List ℕ) (t : Term)
    → (if a then Some Here else (if b then Some (Number 0) else (if c then (if nat_le (digits_value 10 text) 32767 then Some (Number (digits_value 10 text)) else None)
    else (if d then Some (Named (name_of text)) else None)))) ≡ Some t → IsShortTerm t
term_short true b c d text t h = subst IsShortTerm (some_term Here t h) tt
  where
    some_term : (a b : Term) → Some a ≡ Some b → a ≡ b
    some_term a b e = cc
term_short false true c d text t h = subst IsShortTerm (some_term (Number 0) t h) (omega arith)
  where
    some_term : (a b : Term) → Some a ≡ Some b → a ≡ b
    some_term a b e = cc
term_short false false true d text t h = number_short text (nat_le (digits_value 10 text) 32767) t refl h
term_short false false false true text t h = subst IsShortTerm (some_term (Named (name_of text)) t h) tt
  where
    some_term : (a b : Term) → Some a ≡ Some b → a ≡ b
    some_term a b e = cc
term_short false false false false text t h = absurd cc

a_term : (text : List ℕ) (t : Term) → term_of text ≡ Some t → IsShortTerm t
a_term text t h =
    term_short (bytes_eq text (codes "*")) (bytes_eq text (codes "**")) (nat_lt 0 (length text) && list_all is_digit text) (is_symbol text) text t h

all_short : (ps : List (ℕ × List ℕ)) (ts : List Signed) → signed_all ps ≡ Some ts → AreShort ts
all_short [] ts h = subst AreShort (some_terms [] ts h) tt
  where
    some_terms : (a b : List Signed) → Some a ≡ Some b → a ≡ b
    some_terms a b e = cc
all_short (p ∷ ps) ts h =
    let first = chained (λ t. option_map (λ ts. (nat_eq p.0 45, t) ∷ ts) (signed_all ps)) (term_of p.1) ts h in
    let rest = mapped (λ (us : List Signed). (nat_eq p.0 45, first.0) ∷ us) (signed_all ps) ts first.2 in
    subst AreShort rest.2 (a_term p.1 first.0 first.1, all_short ps rest.0 rest.1)

pub expression_short : (text : List ℕ) (ts : List Signed) → expression text ≡ Some ts → AreShort ts
expression_short [] ts h = subst AreShort (some_terms [] ts h) tt
  where
    some_terms : (a b : List Signed) → Some a ≡ Some b → a ≡ b
    some_terms a b e = cc
expression_short (b ∷ text) ts h = all_short (zip (43 ∷ filter is_sign (b ∷ text)) (slice_split is_sign (b ∷ text))) ts h
