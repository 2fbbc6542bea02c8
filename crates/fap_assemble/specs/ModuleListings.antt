-- proof: what a module's card comes to, by its fault and its operation.
use Rattle.std.specs.Prelude.{ℕ, List, Option}
use Rattle.fap_model.specs.declared.types.Operation.{Operation}
use Rattle.link_model.specs.declared.types.ModuleRow.{ModuleRow}
use Rattle.link_model.specs.Moves.{Moved, module_operation}
use Rattle.link_model.specs.ModuleCards.{Relocated}
use Rattle.link_model.specs.Listed.{places_reserved, kind_placed, words_placed}
use Rattle.fap_assemble.specs.declared.past.Past.{Past}
use Rattle.fap_assemble.specs.Judging.{module_fault_by}

abbrev pub row_with : Relocated → Moved → (fault : ℕ) → Option Operation → List ℕ → ModuleRow
row_with r m fault o card = record {
  place = m.known.place;
  fault = fault;
  reserved = places_reserved r m fault o card;
  kind = kind_placed r m o card;
  words = words_placed r m fault o card;
}

abbrev pub module_row_by : Relocated → Past → Moved → List ℕ → ModuleRow
module_row_by r p m card = row_with r m (module_fault_by r p m card) (module_operation card) card
