use Rattle.std.proofs.Common.{take}
use Rattle.std.specs.List.{flat_map}
use Rattle.picture_model.specs.Csv.{csv_row}
use Rattle.text_writer.specs.Writing.{Adds}
use Rattle.schedule_figures.proofs.csv.add_rows.Given as goal

abbrev pub invariant-loop-entry : goal.invariant-loop-entry
invariant-loop-entry g l = Adds g.K.Sink (flat_map (csv_row l.swap) (take l.entry-index l.entries)) l.fn.out l.out
