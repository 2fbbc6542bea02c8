use Rattle.std.proofs.Common.{take}
use Rattle.std.specs.List.{flat_map}
use Rattle.schedule_figures.specs.Levels.{tick_line}
use Rattle.text_writer.specs.Writing.{Adds}
use Rattle.schedule_figures.proofs.levels.add_tick_lines.Given as goal

abbrev pub invariant-loop-level : goal.invariant-loop-level
invariant-loop-level g l = Adds g.K.Sink (flat_map (tick_line l.front l.behind l.entries) (take l.level-index l.levels)) l.fn.out l.out
