-- proof: what a step of a program finds and leaves.
use Rattle.std.specs.Prelude.{◌≡◌, true, false, length, slice_get}
use Rattle.user_model.specs.User.{can_step}
use Rattle.program_trace.specs.Lone.{TracedUser, stepped}
use Rattle.program_trace.specs.declared.run.Found.{Found}
use Rattle.program_trace.specs.declared.stepping.Stepping.{Stepping}
use Rattle.program_trace.specs.declared.stepping.Stepping.TheVariants.{Waits, Went}

-- a step, or none where none can be done
abbrev pub IsStepping : TracedUser → Stepping → Type 0
IsStepping a (Waits b) = (can_step a.user ≡ false) × (b ≡ a)
IsStepping a (Went b) = (can_step a.user ≡ true) × (b ≡ stepped a)

-- what the next step of a program finds
abbrev pub found_in : TracedUser → Found
found_in a =
    record {
      word = slice_get a.user.inner.core a.user.inner.regs.ic;
      regs = a.user.inner.regs;
      item_count = length a.user.transcript;
    }
