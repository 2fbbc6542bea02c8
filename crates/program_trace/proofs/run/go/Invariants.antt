use Rattle.std.proofs.Common.{◌≡◌, ◌+◌, ◌≤◌, ◌++◌}
use Rattle.program_trace.specs.Lone.{gone}
use Rattle.program_trace.specs.Traces.{steps_from}
use Rattle.program_trace.proofs.run.go.Given as goal

-- the steps so far and those that are left are all, and lead to the same state; each step counts as one
abbrev pub invariant-steps : goal.invariant-steps
invariant-steps l =
    (l.steps ++ steps_from l.left l.alone ≡ l.fn.steps ++ steps_from l.most l.fn.alone) × (gone l.left l.alone ≡ gone l.most l.fn.alone)
    × (l.alone.user.own + l.left ≤ l.fn.alone.user.own + l.most)

abbrev pub decreases-steps : goal.decreases-steps
decreases-steps l = l.left
