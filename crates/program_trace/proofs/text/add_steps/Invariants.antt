use Rattle.std.proofs.Common.{◌≡◌, ◌+◌, ◌++◌, List, ℕ, drop}
use Rattle.text_writer.specs.Writing.{Adds}
use Rattle.program_trace.specs.Texts.{steps_text}
use Rattle.program_trace.proofs.text.add_steps.Given as goal

-- the steps so far were added, and with those that are left they are all
abbrev pub invariant-loop-step : goal.invariant-loop-step
invariant-loop-step g l =
    (done : List ℕ) × Adds g.K.Sink done l.fn.out l.out
    × (done ++ steps_text l.symbols l.number (drop l.step-index l.steps) ≡ steps_text l.symbols 1 l.steps)
    × (l.number ≡ l.step-index + 1)
