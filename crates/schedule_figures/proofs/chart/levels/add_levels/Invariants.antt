use Rattle.std.proofs.Common.{take}
use Rattle.std.specs.List.{flat_map}
use Rattle.picture_model.specs.Chart.{level_line}
use Rattle.text_writer.specs.Writing.{Adds}
use Rattle.schedule_figures.proofs.chart.levels.add_levels.Given as goal

abbrev pub invariant-loop-level : goal.invariant-loop-level
invariant-loop-level g l = Adds g.K.Sink (flat_map (level_line l.columns.each l.columns.count l.entries) (take l.level-index l.levels)) l.fn.out l.out
