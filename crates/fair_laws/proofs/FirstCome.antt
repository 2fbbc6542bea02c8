-- First come, first served, in the run of every script.
use Rattle.std.proofs.Common.{◌≡◌, ℕ, suc, Bool, true, false, length, sym, ◌∙◌, subst}
use Rattle.ctss_types.specs.declared.script.Script.{Script}
use Rattle.time_sharing.specs.Machine.{Ending, Went, Stopped, Resized, Replaced, LoggedOut}
use Rattle.time_sharing.specs.Rows.{machine, some_line}
use Rattle.time_sharing.specs.System.{cause_of}
use Rattle.user_model.specs.Session.{user_rows}
use Rattle.user_model.specs.User.{User}
use Rattle.plan_model.specs.Levels.{has_time}
use Rattle.plan_model.specs.Plan.{Plan}
use Rattle.system_model.specs.World.{line_blocks}
use Rattle.system_model.specs.Run.{Run, AfterSteps, next}
use Rattle.system_model.specs.Record.{start_of}
use Rattle.fair_laws.specs.Waits.{IsUsual, WaitsSince, is_before, level_row}
use Rattle.fair_laws.specs.Laws.{FirstComeFirstServed}
use Rattle.fair_laws.proofs.Turns.{Good}
use Rattle.fair_laws.proofs.NextPlan as plans
use Rattle.fair_laws.proofs.Order.{Keeps, keeps-woken, keeps-dropped, keeps-risen, keeps-preempted, keeps-charged, keeps-leaves, keeps-entered, keeps-again}
use Rattle.fair_laws.proofs.Whole.{size, world_of, state_at, run_at, sound_at}

module _ (script : Script) (usual : IsUsual script) (u v n : ℕ) where
  abbrev Kept : Plan → Type 0
  Kept plan = Keeps v u (state_at script n).plan.levels.rows plan.levels.rows

  good : Good (length script.accounts) (state_at script n).clock (state_at script n).plan.levels
  good = (sound_at script usual 0 0 n).order.good

  abbrev after : ℕ → Ending → User → Plan
  after x e p = plans.after_step (machine user_rows) (world_of script) (state_at script n) Kept x e p

  step_kept : (x : ℕ) (e : Ending) (p : User) → Kept (after x e p)
  step_kept x Went p = by_time (has_time (state_at script n).plan.levels)
    where
      by_time : (b : Bool) → Kept ((world_of script).gave_up (Rattle.time_sharing.specs.System.plan_after (machine user_rows) (world_of script)
          ((world_of script).charged (state_at script n).plan x (suc (state_at script n).clock)) x (cause_of Went b) p (suc (state_at script n).clock)) x p Went (suc (state_at script n).clock))
      by_time true = keeps-charged (length script.accounts) (state_at script n).clock v u x (state_at script n).plan.levels good
      by_time false = keeps-charged (length script.accounts) (state_at script n).clock v u x (state_at script n).plan.levels good
  step_kept x Stopped p = keeps-again (length script.accounts) (state_at script n).clock v u x (some_line p.unread) (state_at script n).plan.levels good
  step_kept x Resized p = keeps-entered (length script.accounts) (state_at script n).clock v u x (size p) (state_at script n).plan.levels good
  step_kept x Replaced p = keeps-entered (length script.accounts) (state_at script n).clock v u x (size p) (state_at script n).plan.levels good
  step_kept x LoggedOut p = keeps-again (length script.accounts) (state_at script n).clock v u x (some_line p.unread) (state_at script n).plan.levels good

  each : plans.Each (machine user_rows) (world_of script) (state_at script n) Kept
  each =
      let q = (state_at script n).plan.levels in
      let now = (state_at script n).clock in
      record {
        same = λ k h there since e. e;
        line = λ x p r. keeps-woken v u x (line_blocks p) now q;
        cut = λ x kind p. keeps-dropped v u x q;
        rises = λ served x l is. keeps-risen (length script.accounts) now v u x l served q good is;
        preempted = λ x. keeps-preempted v u x now q;
        load = λ x p k h there since e. e;
        step = λ x e p is. step_kept x e p;
        wait = λ x p is. keeps-leaves now v u x q;
      }

  next_kept : Kept (next script.end (run_at script n)).system.plan
  unfolding next run_at
  next_kept = plans.plan_of_next (machine user_rows) (world_of script) (state_at script n) Kept each script.end

pub first_come_first_served : FirstComeFirstServed
unfolding AfterSteps start_of run_at
first_come_first_served script u v since level r usual after was is later =
    subst (λ (x : Run). WaitsSince since level u x → WaitsSince since level u (next script.end x) → is_before v u (level_row level (next script.end x).system.plan.levels) ≡ true
    → is_before v u (level_row level x.system.plan.levels) ≡ true) (sym after.1)
    (λ a b e. next_kept script usual u v after.0 level a.stands b.stands (b.since_is ∙ sym a.since_is) e) was is later
