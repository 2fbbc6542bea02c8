use Rattle.std.proofs.Common.{◌≡◌, map}
use Rattle.user_model.specs.User.{User}
use Rattle.supervisor.proofs.finish.transcripts_of.Given as goal

abbrev pub invariant-loop-session : goal.invariant-loop-session
invariant-loop-session l = l.transcripts.items ≡ map (λ (u : User). u.transcript) l.yielded
