use Rattle.std.proofs.Common.{ap, ap₂, sym, ◌∙◌}
use Rattle.time_sharing.specs.Rows.{machine}
use Rattle.time_sharing.specs.Record.{clock_is_below, measure}
use Rattle.time_sharing.specs.System.{next}
use Rattle.time_sharing.specs.Claims.{AllIsolated, RowsIsolated, AllRunsEnd, CommonsAreOne, RunsInParts, FeedsDecide, EachMomentIsAlone, LateEventsWait, WatchingIsStill}
use Rattle.time_sharing.specs.Private.{alone}
use Rattle.time_sharing.proofs.TextsLaws.{watched}
use Rattle.time_sharing.proofs.CommonsLaws.{common_replies}
use Rattle.time_sharing.proofs.Limits.{run_in_parts}
use Rattle.time_sharing.proofs.Late.{run_then_given}
use Rattle.time_sharing.proofs.Theorem.{isolation, moment}
use Rattle.time_sharing.proofs.RowsLaws.{rows_laws}
use Rattle.time_sharing.proofs.Ending.{falls}
use Rattle.time_sharing.proofs.RepeatLaws.{whole-step, whole-done}

pub all_isolated : (S P F : Type 0) → AllIsolated S P F
all_isolated S P F m laws w u pos = isolation m laws w u pos

pub rows_isolated : (A P F : Type 0) → RowsIsolated A P F
rows_isolated A P F rows w u pos = isolation (machine rows) (rows_laws rows) w u pos

pub all_runs_end : (S P F : Type 0) → AllRunsEnd S P F
all_runs_end S P F m w ends =
    record {
      falls = λ limit s e. falls m w ends limit s e;
      step = λ limit s e. whole-step (clock_is_below m w limit) (next m w limit) (measure m w limit) (falls m w ends limit) s e;
      done = λ limit s e. whole-done (clock_is_below m w limit) (next m w limit) (measure m w limit) (falls m w ends limit) s e;
    }

pub commons_are_one : (S P F : Type 0) → CommonsAreOne S P F
commons_are_one S P F m w = common_replies m w

pub runs_in_parts : (S P F : Type 0) → RunsInParts S P F
runs_in_parts S P F m w ends = run_in_parts m w ends

pub feeds_decide : (S P F Q G : Type 0) → FeedsDecide S P F Q G
feeds_decide S P F Q G m laws w x u v pu pv firsts files plan consoles limit n events inside own firsts' files' plan' consoles' limit' n' events' inside' own' same feed =
    let a = isolation m laws w u pu firsts files plan consoles limit n events inside own in
    let b = isolation m laws x v pv firsts' files' plan' consoles' limit' n' events' inside' own' in
    ap (λ z. z.state) (sym a ∙ ap₂ (alone m) same feed ∙ b)

pub each_moment : (S P F : Type 0) → EachMomentIsAlone S P F
each_moment S P F m laws w u pos = moment m laws w u pos

pub late_events_wait : (S P F : Type 0) → LateEventsWait S P F
late_events_wait S P F m w ends es = run_then_given m w es ends

pub watching_is_still : (S P F : Type 0) → WatchingIsStill S P F
watching_is_still S P F m w = watched m w
