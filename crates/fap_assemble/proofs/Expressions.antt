-- The value of an expression, part by part, is the definition's.
use Rattle.std.proofs.Common.{◌≡◌, ℕ, ◌<◌, Bool, List, [], ◌∷◌, length, Option, Some, None, refl, sym, ap, ◌∙◌, nat_eq, arith}
use Rattle.std.specs.Option.{option_map, option_and_then}
use Rattle.fap_model.specs.declared.types.Term.{Term}
use Rattle.fap_model.specs.Terms.{Signed, term_of, signed_all, expression}
use Rattle.fap_model.specs.Places.{term_value, value_from, value_of}
use Rattle.fap_read.specs.Peeled.{parts_from, parts_behind, sign_byte}
use Rattle.fap_assemble.specs.Expressions.{sum_with, part_taken, summed}

-- the value behind a sum, if it has one
abbrev behind : List (ℕ × ℕ) → ℕ → Option ℕ → List Signed → Option ℕ
behind names place None ts = None
behind names place (Some sum) ts = value_from names place sum ts

behind_end : (names : List (ℕ × ℕ)) (place : ℕ) (sum : Option ℕ) → sum ≡ behind names place sum []
behind_end names place None = refl
behind_end names place (Some sum) = refl

behind_next : (names : List (ℕ × ℕ)) (place : ℕ) (sum : Option ℕ) (minus : Bool) (t : Term) (ts : List Signed) (v : Option ℕ) → term_value names place t ≡ v
    → behind names place (sum_with sum minus v) ts ≡ behind names place sum ((minus, t) ∷ ts)
behind_next names place None minus t ts v e = refl
behind_next names place (Some sum) minus t ts None e = rw e refl
behind_next names place (Some sum) minus t ts (Some v) e = rw e refl

taken_none : (names : List (ℕ × ℕ)) (place : ℕ) (sum : Option ℕ) (minus : Bool) (t : Term) (all : Option (List Signed))
    → option_map (λ ts. behind names place (sum_with sum minus (term_value names place t)) ts) all
    ≡ option_map (λ ts. behind names place sum ts) (option_map (λ ts. (minus, t) ∷ ts) all)
taken_none names place sum minus t None = refl
taken_none names place sum minus t (Some ts) = ap (λ (v : Option ℕ). Some v) (behind_next names place sum minus t ts (term_value names place t) refl)

taken : (names : List (ℕ × ℕ)) (place : ℕ) (sum : Option ℕ) (minus : Bool) (o : Option Term) (ps : List (ℕ × List ℕ))
    → ((next : Option ℕ) → summed names place next ps ≡ option_map (λ ts. behind names place next ts) (signed_all ps))
    → part_taken names place sum minus o (λ next. summed names place next ps)
    ≡ option_map (λ ts. behind names place sum ts) (option_and_then (λ t. option_map (λ ts. (minus, t) ∷ ts) (signed_all ps)) o)
taken names place sum minus None ps ih = refl
taken names place sum minus (Some t) ps ih = ih (sum_with sum minus (term_value names place t)) ∙ taken_none names place sum minus t (signed_all ps)

summed_is : (names : List (ℕ × ℕ)) (place : ℕ) (sum : Option ℕ) (ps : List (ℕ × List ℕ))
    → summed names place sum ps ≡ option_map (λ ts. behind names place sum ts) (signed_all ps)
summed_is names place sum [] = ap (λ (v : Option ℕ). Some v) (behind_end names place sum)
summed_is names place sum (p ∷ ps) = taken names place sum (nat_eq p.0 45) (term_of p.1) ps (λ next. summed_is names place next ps)

said_is : (names : List (ℕ × ℕ)) (place : ℕ) (text : List ℕ) → 0 < length text
    → summed names place (Some 0) (parts_from 43 text) ≡ option_map (λ ts. value_of names place ts) (expression text)
said_is names place [] h = absurd (omega arith)
said_is names place (b ∷ text) h = summed_is names place (Some 0) (parts_from 43 (b ∷ text))

pub expression_value : (names : List (ℕ × ℕ)) (place : ℕ) (text : List ℕ) (sum : Option ℕ) → 0 < length text
    → Some sum ≡ summed names place (Some 0) (parts_from 43 text) → Some sum ≡ option_map (λ ts. value_of names place ts) (expression text)
expression_value names place text sum h e = e ∙ said_is names place text h

pub no_expression : (names : List (ℕ × ℕ)) (place : ℕ) (text : List ℕ) → 0 < length text
    → None ≡ summed names place (Some 0) (parts_from 43 text) → None ≡ option_map (λ ts. value_of names place ts) (expression text)
no_expression names place text h e = e ∙ said_is names place text h

pub empty_value : (names : List (ℕ × ℕ)) (place : ℕ) (text : List ℕ) → length text ≡ 0 → Some (Some 0) ≡ option_map (λ ts. value_of names place ts) (expression text)
empty_value names place [] h = refl
empty_value names place (b ∷ text) h = absurd (omega arith)

pub stopped : (names : List (ℕ × ℕ)) (place : ℕ) (text : List ℕ) (sum : Option ℕ) (next : Option (Bool × List ℕ)) (minus : Bool) (rest first : List ℕ) (more : List (ℕ × List ℕ))
    → 0 < length text → next ≡ Some (minus, rest) → parts_from (sign_byte minus) rest ≡ (sign_byte minus, first) ∷ more → term_of first ≡ None
    → summed names place sum (parts_behind next) ≡ summed names place (Some 0) (parts_from 43 text) → None ≡ option_map (λ ts. value_of names place ts) (expression text)
stopped names place text sum next minus rest first more h n p t e =
    let none : summed names place sum (parts_behind next) ≡ None = rw (n, p, t) refl in
    no_expression names place text h (sym none ∙ e)

pub finished : (names : List (ℕ × ℕ)) (place : ℕ) (text : List ℕ) (sum : Option ℕ) (next : Option (Bool × List ℕ)) → 0 < length text → next ≡ None
    → summed names place sum (parts_behind next) ≡ summed names place (Some 0) (parts_from 43 text) → Some sum ≡ option_map (λ ts. value_of names place ts) (expression text)
finished names place text sum next h n e =
    let all : summed names place sum (parts_behind next) ≡ Some sum = rw n refl in
    expression_value names place text sum h (sym all ∙ e)
