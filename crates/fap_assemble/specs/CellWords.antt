-- proof: the places of a module's card, by what was read of it.
use Rattle.std.specs.Prelude.{◌≡◌, ℕ, List, map, Some}
use Rattle.fap_model.specs.declared.types.Operation.{Operation}
use Rattle.fap_model.specs.Decks.{words_by}
use Rattle.fap_model.specs.Places.{or_zero}
use Rattle.link_model.specs.declared.types.ModulePlace.{ModulePlace}
use Rattle.link_model.specs.Moves.{Moved}
use Rattle.link_model.specs.ModuleCards.{Relocated, card_kind, cell}
use Rattle.fap_assemble.specs.declared.past.Past.{Past}
use Rattle.fap_assemble.specs.Judging.{module_fault_by}

-- a card without a fault, whatever stood before it
abbrev pub IsSound : Relocated → Moved → List ℕ → Type 0
IsSound r m card = (p : Past) × (module_fault_by r p m card ≡ 0)

-- the places of a card's words
abbrev pub word_cells : Relocated → Moved → Operation → List ℕ → List ModulePlace
word_cells r m o card = map (cell (or_zero (card_kind o r m card))) (words_by r.whole m.known (Some o) card)
