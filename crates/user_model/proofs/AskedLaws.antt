-- What is known of a user whose next step is to make a common operation.
use Rattle.std.proofs.Common.{◌≡◌, Bool, true, false, ◌&&◌, List, [], ◌∷◌, Option, Some, None, refl, sym, ◌∙◌}
use Rattle.std.specs.Prelude.{slice_get}
use Rattle.time_sharing.specs.Machine.{Line, CommonOp}
use Rattle.time_sharing.specs.Rows.{some_line}
use Rattle.machine_model.specs.Machine.{step_of}
use Rattle.program_model.specs.declared.Fill.{Fill}
use Rattle.user_model.specs.Requests.{command_of}
use Rattle.user_model.specs.Commands.{command_asks}
use Rattle.user_model.specs.Programs.{step_asks, at_break}
use Rattle.user_model.specs.Session.{works_in, Next, AtCommand, AtInstruction, next_of}
use Rattle.user_model.specs.User.{User, can_step, asks_common}
use Rattle.user_model.proofs.StepLaws.{next_makes, break_makes, run_makes, fill_makes, command_makes, command_can, idle_steps_none}

both : (a b : Bool) → (a && b) ≡ true → (a ≡ true) × (b ≡ true)
both true true h = (refl, refl)
both true false h = cc
both false _ h = cc

pub asked_on : (p : User) → can_step p ≡ true → p.on ≡ true
unfolding can_step
asked_on p can = (both p.on _ can).0

-- a program that works has nothing that is still to be stored, and is at no breakpoint
pub asked_filled : (p : User) (op : CommonOp) → works_in p.inner.state ≡ true → asks_common p ≡ Some op →
    (p.inner.fill ≡ None) × (at_break p.inner ≡ false) × (step_asks (step_of p.inner.regs p.inner.core) p.inner ≡ Some op)
asked_filled p op h makes = by_fill p.inner.fill refl
  where
    by_break : (b : Bool) → p.inner.fill ≡ None → at_break p.inner ≡ b → (p.inner.fill ≡ None) × (at_break p.inner ≡ false) × (step_asks (step_of p.inner.regs p.inner.core) p.inner ≡ Some op)
    by_break true is at = let none : None ≡ Some op = sym (break_makes p h is at) ∙ makes in cc
    by_break false is at = (is, at, sym (run_makes p (step_of p.inner.regs p.inner.core) h is at refl) ∙ makes)

    by_fill : (f : Option Fill) → p.inner.fill ≡ f → (p.inner.fill ≡ None) × (at_break p.inner ≡ false) × (step_asks (step_of p.inner.regs p.inner.core) p.inner ≡ Some op)
    by_fill None is = by_break (at_break p.inner) is refl
    by_fill (Some f) is = let none : None ≡ Some op = sym (fill_makes p f h is) ∙ makes in cc

-- without one a line is unread
some_first : (xs : List Line) → some_line xs ≡ true → (l : Line) × (slice_get xs 0 ≡ Some l)
some_first [] h = cc
some_first (x ∷ xs) h = (x, refl)

pub asked_first : (p : User) → works_in p.inner.state ≡ false → can_step p ≡ true → (l : Line) × (slice_get p.unread 0 ≡ Some l)
asked_first p h can = some_first p.unread (both p.on (some_line p.unread) (sym (command_can p h) ∙ can)).1

-- and it is a command
pub asked_command : (p : User) (op : CommonOp) (l : Line) → works_in p.inner.state ≡ false → slice_get p.unread 0 ≡ Some l → asks_common p ≡ Some op →
    (next_of p.inner ≡ AtCommand) × (command_asks (command_of l) p.inner ≡ Some op)
asked_command p op l h first makes = by_next (next_of p.inner) refl
  where
    by_next : (x : Next) → next_of p.inner ≡ x → (next_of p.inner ≡ AtCommand) × (command_asks (command_of l) p.inner ≡ Some op)
    by_next AtCommand is = (is, sym (command_makes p l (command_of l) is first refl) ∙ makes)
    by_next (AtInstruction s) is = absurd (idle_steps_none p.inner s h is)
    by_next _ is = let none : None ≡ Some op = sym (next_makes _ p is) ∙ makes in cc
