use Rattle.std.proofs.Common.{take}
use Rattle.std.specs.List.{flat_map}
use Rattle.text_model.specs.Canonical.{file_cards}
use Rattle.text_writer.specs.Writing.{Adds}
use Rattle.script_read.proofs.text.add_files.Given as goal

abbrev pub invariant-loop-file : goal.invariant-loop-file
invariant-loop-file g l = Adds g.K.Sink (flat_map file_cards (take l.file-index l.files)) l.fn.out l.out
