-- proof: many instructions of a program.
use Rattle.std.specs.Prelude.{◌≡◌, ℕ, ◌+◌, ◌<◌, true, List, None}
use Rattle.cpu_regs.specs.declared.regs.Regs.{Regs}
use Rattle.machine_model.specs.Step.{went}
use Rattle.machine_model.specs.Runs.{many}
use Rattle.user_model.specs.Session.{works_in}
use Rattle.user_model.specs.User.{User}

-- a program works without a debugger, and nothing is still to be stored
pub record IsAtWork (p : User) : Type 0 where
  pub on : p.on ≡ true
  pub works : works_in p.inner.state ≡ true
  pub filled : p.inner.fill ≡ None
  pub alone : p.inner.debugger ≡ None

-- the user whose program has done so many instructions, with these registers
abbrev pub gone : ℕ → Regs → User → User
gone n r p = record p { inner = record p.inner { regs = r }; own = p.own + n }

-- A user's program did so many instructions, which all went on, with these words before and after.
pub record HaveGone (n : ℕ) (old new : User) (before after : List ℕ) : Type 0 where
  pub work : 0 < n → IsAtWork old
  pub went : many n old.inner.regs before ≡ went new.inner.regs after
  pub left : new ≡ gone n new.inner.regs old
