-- proof: the value of an expression, part by part.
use Rattle.std.specs.Prelude.{ℕ, Bool, List, [], ◌∷◌, Option, Some, None, nat_eq}
use Rattle.fap_model.specs.declared.types.Term.{Term}
use Rattle.fap_model.specs.Terms.{term_of}
use Rattle.fap_model.specs.Places.{term_value, with_term}

-- a term more; none where it or one before it has no value
abbrev pub sum_with : Option ℕ → Bool → Option ℕ → Option ℕ
sum_with None minus v = None
sum_with (Some sum) minus None = None
sum_with (Some sum) minus (Some v) = Some (with_term sum minus v)

abbrev pub part_taken : List (ℕ × ℕ) → ℕ → Option ℕ → Bool → Option Term → (Option ℕ → Option (Option ℕ)) → Option (Option ℕ)
part_taken names place sum minus None more = None
part_taken names place sum minus (Some t) more = more (sum_with sum minus (term_value names place t))

-- the value of parts behind a sum: none of them may be at fault, also behind a symbol that has no value
abbrev pub summed : List (ℕ × ℕ) → ℕ → Option ℕ → List (ℕ × List ℕ) → Option (Option ℕ)
summed names place sum [] = Some sum
summed names place sum (p ∷ ps) = part_taken names place sum (nat_eq p.0 45) (term_of p.1) (λ next. summed names place next ps)
