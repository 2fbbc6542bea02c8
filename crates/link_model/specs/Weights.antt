-- claim: how an expression moves with its module.
use Rattle.std.specs.Prelude.{ℕ, ◌+◌, Bool, false, ◌&&◌, nat_eq, nat_le, if◌then◌else◌, List, [], ◌∷◌, ◌++◌, length, map, filter, Option, Some, None}
use Rattle.std.specs.List.{list_any}
use Rattle.fap_model.specs.declared.types.Term.{Term}
use Rattle.fap_model.specs.declared.types.Term.TheVariants.{Named, Number, Here}
use Rattle.fap_model.specs.Terms.{Signed}
use Rattle.fap_model.specs.declared.types.Operation.{Operation}
use Rattle.fap_model.specs.declared.types.Operation.TheVariants.{Equ as equ, End as end}
use Rattle.fap_model.specs.Statements.{Address, plain, literal, Field, placed, half, nothing, value, words}
use Rattle.fap_model.specs.Places.{value_in, with_term, or_zero}
use Rattle.fap_model.specs.Decks.{index_from}

-- a place weighs one, a symbol what it says, a number nothing
abbrev pub term_weight : List (ℕ × ℕ) → Term → ℕ
term_weight weights (Named name) = or_zero (value_in weights name)
term_weight weights (Number n) = 0
term_weight weights Here = 1

abbrev pub weight_from : List (ℕ × ℕ) → ℕ → List Signed → ℕ
weight_from weights sum [] = sum
weight_from weights sum (t ∷ ts) = weight_from weights (with_term sum t.0 (term_weight weights t.1)) ts

-- what is added less what is subtracted, modulo 2^15
abbrev pub weight_of : List (ℕ × ℕ) → List Signed → ℕ
weight_of weights ts = weight_from weights 0 ts

-- names that weigh nothing and have the value 0, before a table
abbrev pub with_externs : List ℕ → List (ℕ × ℕ) → List (ℕ × ℕ)
with_externs externs table = map (λ name. (name, 0)) externs ++ table

abbrev pub is_among : List ℕ → ℕ → Bool
is_among names name = list_any (λ x. nat_eq x name) names

abbrev pub names_extern : List ℕ → Term → Bool
names_extern externs (Named name) = is_among externs name
names_extern externs (Number n) = false
names_extern externs Here = false

-- the terms that are externs
abbrev pub externs_in : List ℕ → List Signed → List Signed
externs_in externs ts = filter (λ (t : Signed). names_extern externs t.1) ts

-- an extern that is added
abbrev pub added_kind : List ℕ → Bool → Term → Option ℕ
added_kind externs false (Named name) = Some (2 + index_from 0 externs name)
added_kind externs minus t = None

-- the kind of an address by its weight and the externs in it: 0 or 1, or 2 + j for one extern that is added alone
abbrev pub plain_kind : List ℕ → (weight : ℕ) → List Signed → Option ℕ
plain_kind externs weight [] = if nat_le weight 1 then Some weight else None
plain_kind externs weight (t ∷ []) = if nat_eq weight 0 then added_kind externs t.0 t.1 else None
plain_kind externs weight (t ∷ u ∷ ts) = None

-- a literal is a place
abbrev pub address_kind : List ℕ → List (ℕ × ℕ) → Address → Option ℕ
address_kind externs weights (plain ts) = plain_kind externs (weight_of weights ts) (externs_in externs ts)
address_kind externs weights (literal w) = Some 1

-- an expression with at most so much weight, and without externs
abbrev pub is_light : ℕ → List ℕ → List (ℕ × ℕ) → List Signed → Bool
is_light most externs weights ts = nat_le (weight_of weights ts) most && nat_eq (length (externs_in externs ts)) 0

-- an EQU and a start may be places
abbrev pub most_weight : Operation → ℕ
most_weight equ = 1
most_weight end = 1
most_weight o = 0

-- the kind of a field, if its expressions weigh what they may
abbrev pub kind_in : Operation → List ℕ → List (ℕ × ℕ) → Field → Option ℕ
kind_in o externs weights (placed a tag decrement) =
    if is_light 0 externs weights tag && is_light 0 externs weights decrement then address_kind externs weights a else None
kind_in o externs weights (half n) = Some 0
kind_in o externs weights nothing = Some 0
kind_in o externs weights (value ts) = if is_light (most_weight o) externs weights ts then Some (weight_of weights ts) else None
kind_in o externs weights (words ws) = Some 0

abbrev pub kind_of : Operation → List ℕ → List (ℕ × ℕ) → Option Field → Option ℕ
kind_of o externs weights None = Some 0
kind_of o externs weights (Some f) = kind_in o externs weights f
