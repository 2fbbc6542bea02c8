use Rattle.std.proofs.Common.{◌≡◌, take}
use Rattle.plan_model.specs.Loads.{Places}
use Rattle.system_model.specs.Run.{with_all_events}
use Rattle.supervisor.specs.Seen.{run_with}
use Rattle.ctss_modes.proofs.record.give_all.Given as goal

abbrev pub invariant-loop-event : goal.invariant-loop-event
invariant-loop-event l = record {
  run : (places : Places) → run_with places l.supervisor ≡ with_all_events (take l.event-index l.events) (run_with places l.fn.supervisor);
  texts : l.supervisor.texts ≡ l.fn.supervisor.texts;
  ended : l.supervisor.ended ≡ l.fn.supervisor.ended;
  entries : l.supervisor.entries ≡ l.fn.supervisor.entries;
}
