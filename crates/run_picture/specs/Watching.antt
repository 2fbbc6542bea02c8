-- proof: a run that goes on step by step.
use Rattle.std.specs.Prelude.{◌≡◌, ℕ, true}
use Rattle.system_model.specs.Run.{next}
use Rattle.system_model.specs.Runs.{Passes}
use Rattle.supervisor.specs.Whole.{Whole, Agrees}
use Rattle.live_run.specs.Calls.{run_over}

-- it has done a step, and then such as write no entry, and may go on
pub record Steps (limit : ℕ) (old new : Whole) : Type 0 where
  pub more : ℕ
  pub passes : Passes limit more (next limit (run_over old)) (run_over new)
  pub agrees : Agrees new
  pub tells : new.back.held.tells ≡ true
