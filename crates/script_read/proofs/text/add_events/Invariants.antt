use Rattle.std.proofs.Common.{take}
use Rattle.std.specs.List.{flat_map}
use Rattle.text_model.specs.Canonical.{event_card}
use Rattle.text_writer.specs.Writing.{Adds}
use Rattle.script_read.proofs.text.add_events.Given as goal

abbrev pub invariant-loop-timed : goal.invariant-loop-timed
invariant-loop-timed g l = Adds g.K.Sink (flat_map event_card (take l.timed-index l.events)) l.fn.out l.out
