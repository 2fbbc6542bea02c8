-- proof: the line of a card at fault, as the code has it.
use Rattle.std.specs.Prelude.{ℕ, List}
use Rattle.fap_assemble.specs.declared.fault.CardFault.{CardFault}
use Rattle.text_model.specs.Words.{fault_line}

abbrev pub line_of_fault : CardFault → List ℕ
line_of_fault f = fault_line (f.card, f.number)
