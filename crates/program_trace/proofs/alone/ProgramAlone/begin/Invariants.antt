use Rattle.std.proofs.Common.{◌≡◌, take}
use Rattle.program_trace.proofs.Sessions.{all_typed, asked}
use Rattle.program_trace.proofs.alone.ProgramAlone.begin.Given as goal

-- the lines so far were typed
abbrev pub invariant-loop-line : goal.invariant-loop-line
invariant-loop-line l = l.session ≡ all_typed asked (take l.line-index l.lines)
