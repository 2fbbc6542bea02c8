use Rattle.std.proofs.Common.{take}
use Rattle.std.specs.List.{flat_map}
use Rattle.text_model.specs.Parts.{number}
use Rattle.text_writer.specs.Writing.{Adds}
use Rattle.script_read.proofs.text.add_numbers.Given as goal

abbrev pub invariant-loop-n : goal.invariant-loop-n
invariant-loop-n g l = Adds g.K.Sink (flat_map number (take l.n-index l.numbers)) l.fn.out l.out
