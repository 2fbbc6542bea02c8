use Rattle.std.proofs.Common.{take}
use Rattle.std.specs.List.{flat_map}
use Rattle.text_model.specs.Report.{item_text}
use Rattle.text_writer.specs.Writing.{Adds}
use Rattle.text_writer.proofs.report.account.add_items.Given as goal

abbrev pub invariant-loop-item : goal.invariant-loop-item
invariant-loop-item g l = Adds g.K.Sink (flat_map item_text (take l.item-index l.items)) l.fn.out l.out
