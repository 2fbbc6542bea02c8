use Rattle.std.proofs.Common.{take}
use Rattle.std.specs.List.{flat_map}
use Rattle.schedule_figures.specs.Levels.{services_column}
use Rattle.text_writer.specs.Writing.{Adds}
use Rattle.schedule_figures.proofs.levels.add_services.Given as goal

abbrev pub invariant-loop-cause : goal.invariant-loop-cause
invariant-loop-cause g l = Adds g.K.Sink (flat_map (services_column l.level l.entries) (take l.cause-index l.causes)) l.fn.out l.out
