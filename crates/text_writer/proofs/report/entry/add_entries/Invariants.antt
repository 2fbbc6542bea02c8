use Rattle.std.proofs.Common.{take}
use Rattle.std.specs.List.{flat_map}
use Rattle.text_model.specs.Report.{entry_text}
use Rattle.text_writer.specs.Writing.{Adds}
use Rattle.text_writer.proofs.report.entry.add_entries.Given as goal

abbrev pub invariant-loop-entry : goal.invariant-loop-entry
invariant-loop-entry g l = Adds g.K.Sink (flat_map entry_text (take l.entry-index l.entries)) l.fn.out l.out
