-- Runs in parts, and events that come late.
use Rattle.std.proofs.Common.{refl}
use Rattle.time_sharing.specs.Rows.{machine}
use Rattle.time_sharing.proofs.Limits.{run_in_parts}
use Rattle.time_sharing.proofs.Late.{run_then_given}
use Rattle.user_model.specs.Session.{user_rows}
use Rattle.system_model.specs.Run.{world, run_to, measure}
use Rattle.system_model.specs.Claims.{RunsInParts, LateEventsWait, StepsEnd}
use Rattle.system_model.proofs.RunLaws.{ends, measure_next}

pub runs_in_parts : RunsInParts
unfolding run_to measure
runs_in_parts j k r le = λ i. record r { system = run_in_parts (machine user_rows) (world r) (ends r.swap r.common r.accounts) j k r.system le i }

pub late_events_wait : LateEventsWait
unfolding run_to measure
late_events_wait events j k r le late =
    ((λ i. record r { system = run_then_given (machine user_rows) (world r) events (ends r.swap r.common r.accounts) j k r.system le late i }), refl)

pub steps_end : StepsEnd
steps_end = measure_next
