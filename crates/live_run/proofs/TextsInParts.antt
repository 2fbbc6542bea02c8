-- The consoles' texts along runs in parts.
use Rattle.std.proofs.Common.{ℕ, ◌≤◌, List, sym, ap, ◌∙◌, arith}
use Rattle.std.proofs.lemmas.Bool.Decides.{nat_tests}
use Rattle.ctss_types.specs.declared.file.FileBody.{FileBody}
use Rattle.time_sharing.specs.Rows.{machine}
use Rattle.time_sharing.specs.Texts.{Watched, watched_to}
use Rattle.time_sharing.proofs.TextsLaws.{watched}
use Rattle.user_model.specs.Session.{user_rows}
use Rattle.user_model.specs.User.{User}
use Rattle.plan_model.specs.Plan.{Plan}
use Rattle.system_model.specs.Run.{world, Run, State, run_to, with_all_events}
use Rattle.system_model.proofs.RunLaws.{ends}
use Rattle.console_texts.specs.Watching.{watch, texts_to}
use Rattle.live_run.specs.Texts.{TextsInParts, LateEventsShowNothing}
use Rattle.live_run.proofs.Shown.{shown_in_parts, shown_before, stopped}

pub texts_in_parts : TextsInParts
unfolding run_to texts_to
texts_in_parts events j k r texts le late =
    let M = machine user_rows in
    let W = world r in
    ap (λ (s : State). (watched_to M W k (watch (with_all_events events (record r { system = s })) (watched_to M W j (watch r texts)).texts)).texts) (sym (watched M W j (watch r texts)))
    ∙ ap (λ (y : Watched User Plan (List FileBody)). y.texts) (shown_in_parts M W events (ends r.swap r.common r.accounts) j k (watch r texts) le late)

pub late_events_show_nothing : LateEventsShowNothing
unfolding texts_to
late_events_show_nothing events limit r texts late =
    shown_before (machine user_rows) (world r) events (ends r.swap r.common r.accounts) limit (watch r texts) late

-- a run to a limit reaches it
pub reached : (limit : ℕ) (r : Run) → limit ≤ (run_to limit r).system.clock
unfolding run_to
reached limit r = let down = stopped (machine user_rows) (world r) (ends r.swap r.common r.accounts) limit r.system in grind (arith, nat_tests, down)
