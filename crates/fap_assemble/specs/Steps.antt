-- proof: what a card does to what is known, part by part.
use Rattle.fap_read.specs.declared.card.Card.{Card}
use Rattle.std.specs.Prelude.{ℕ, ◌%◌, ◌^◌, if◌then◌else◌, List, map, Option, Some, None, is_none}
use Rattle.fap_model.specs.Cards.{is_comment, symbol_of}
use Rattle.fap_model.specs.declared.types.Operation.{Operation}
use Rattle.fap_model.specs.Places.{Known, value_in, symbol_value, next_place}

-- the symbol that a card defines, if no earlier card does
abbrev pub definition : List ℕ → Option ℕ
definition card = if is_comment card then None else symbol_of card

abbrev pub place_by : Option Operation → Known → List ℕ → ℕ
place_by None k card = k.place
place_by (Some o) k card = next_place k o card

abbrev pub value_by : Option Operation → Known → List ℕ → ℕ
value_by None k card = k.place % 2 ^ 15
value_by (Some o) k card = symbol_value k o card

-- how many symbols more there are
abbrev pub new_symbols : List (ℕ × ℕ) → Option ℕ → ℕ
new_symbols symbols None = 0
new_symbols symbols (Some name) = if is_none (value_in symbols name) then 1 else 0

abbrev pub texts : List Card → List (List ℕ)
texts cards = map (λ (c : Card). c.text) cards
