-- claim: the trace of a program: what each of its steps finds and leaves, and how it ends.
use Rattle.std.specs.Prelude.{◌≡◌, ℕ, zero, suc, ◌<◌, nat_eq, if◌then◌else◌, List, [], ◌∷◌, length, drop, Option, Some, None, slice_get}
use Rattle.cpu_regs.specs.declared.regs.Regs.{Regs}
use Rattle.time_sharing.specs.Machine.{Line}
use Rattle.user_model.specs.Session.{works_in}
use Rattle.user_model.specs.User.{can_step}
pub use Rattle.program_trace.specs.declared.types.Trace.{Trace}
pub use Rattle.program_trace.specs.declared.types.TracedStep.{TracedStep}
pub use Rattle.program_trace.specs.declared.types.TraceEnd.{TraceEnd}
pub use Rattle.program_trace.specs.declared.types.TraceEnd.TheVariants.{Stopped, Waits, Unfinished}
use Rattle.program_trace.specs.Lone.{TracedUser, stepped, goes_on, gone, loaded}

-- the registers, where a program is left, which has a block at least
abbrev pub regs_left : (blocks : ℕ) → Regs → Option Regs
regs_left blocks r = if nat_eq blocks 0 then None else Some r

-- a step: the instruction with its place, the registers before and after, and the lines that were read and written
abbrev pub step_between : (before after : TracedUser) → TracedStep
step_between a b =
    record {
      place = a.user.inner.regs.ic;
      word = slice_get a.user.inner.core a.user.inner.regs.ic;
      before = a.user.inner.regs;
      after = regs_left b.user.inner.blocks b.user.inner.regs;
      items = drop (length a.user.transcript) b.user.transcript;
    }

-- at most so many steps
unfoldable pub steps_from : ℕ → TracedUser → List TracedStep
steps_from zero a = []
steps_from (suc n) a = if goes_on a then step_between a (stepped a) ∷ steps_from n (stepped a) else []

-- the program has stopped, or waits for a line, or goes on
abbrev pub end_of : TracedUser → TraceEnd
end_of a = if works_in a.user.inner.state then (if can_step a.user then Unfinished else Waits) else Stopped

-- the trace of a program with these lines, of at most so many steps
unfoldable pub traced : ℕ → (deck : List ℕ) → List Line → Trace
traced n deck lines =
    record {
      steps = steps_from n (loaded deck lines);
      place = (gone n (loaded deck lines)).user.inner.regs.ic;
      end = end_of (gone n (loaded deck lines));
    }

-- each step is that from the state after those before it to the next state
abbrev pub ShowsStates : Type 0
ShowsStates =
    (n k : ℕ) (deck : List ℕ) (lines : List Line) → k < length (traced n deck lines).steps
    → slice_get (traced n deck lines).steps k ≡ Some (step_between (gone k (loaded deck lines)) (gone (suc k) (loaded deck lines)))
