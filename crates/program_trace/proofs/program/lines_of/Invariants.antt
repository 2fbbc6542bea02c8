use Rattle.std.proofs.Common.{◌≡◌, ◌+◌, drop}
use Rattle.fap_assemble.specs.Steps.{texts}
use Rattle.program_trace.specs.Programs.{most_lines, lines_from}
use Rattle.program_trace.proofs.Lines.{onto}
use Rattle.program_trace.proofs.program.lines_of.Given as goal

-- the lines so far, in front of those that are left, are all
abbrev pub invariant-loop-card : goal.invariant-loop-card
invariant-loop-card l =
    (onto l.lines (lines_from l.left l.number (texts (drop l.card-index l.cards))) ≡ lines_from most_lines l.fn.first (texts l.fn.cards))
    × (l.number ≡ l.fn.first + l.card-index)
