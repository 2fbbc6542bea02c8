-- proof: the symbols of a field, term by term.
use Rattle.std.specs.Prelude.{ℕ, List, Option}
use Rattle.std.specs.List.{flat_map}
use Rattle.fap_model.specs.Terms.{term_of}
use Rattle.fap_model.specs.Listed.{mentioned, name_in}
use Rattle.fap_model.specs.declared.types.Mention.{Mention}

abbrev pub named_term : List ℕ → Option ℕ
named_term text = name_in (term_of text)

-- of parts, each with its sign
abbrev pub mentions_of : ℕ → List (ℕ × List ℕ) → List Mention
mentions_of n parts = flat_map (λ (p : ℕ × List ℕ). mentioned n (named_term p.1)) parts
