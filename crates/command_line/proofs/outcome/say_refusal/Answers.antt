use Rattle.std.proofs.Common.{ℕ, List, ◌∷◌, [], ◌++◌, ap, subst}
use Rattle.std.specs.Fmt.{decimal}
use Rattle.std.specs.Prelude.{codes}
use Rattle.command_line.specs.Said.{Says}
use Rattle.command_line.proofs.Saying.{says_more}
use Rattle.command_line.proofs.outcome.say_refusal.Goals as goal

pub returns : goal.returns
returns g c =
    subst (λ (text : List ℕ). Says (codes "script refused at card " ++ (decimal c.args.card ++ (codes ": " ++ (text ++ 10 ∷ []))))
    (g.K.Sink.held c.args.sink.now) (g.K.Sink.held c.say-4.new.sink) (g.K.Sink.faults c.args.sink.now) (g.K.Sink.faults c.say-4.new.sink))
    c.cause_text.ensures
    (says_more _ _ _ _ _ _ _ _ c.say.ensures
    (says_more _ _ _ _ _ _ _ _ c.say_number.ensures
    (says_more _ _ _ _ _ _ _ _ c.say-2.ensures
    (says_more _ _ _ _ _ _ _ _ c.say-3.ensures c.say-4.ensures))))
