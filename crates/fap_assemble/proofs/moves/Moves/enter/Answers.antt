use Rattle.std.proofs.Common.{rules, arith, ◌∙◌}
use Rattle.fap_assemble.specs.Moving.{moves_in}
use Rattle.fap_assemble.proofs.Moving.{taken_is}
use Rattle.fap_assemble.proofs.moves.Moves.enter.Goals as goal

pub returns-clause-moved : goal.returns-clause-moved
returns-clause-moved c =
    c.in_ok-taking.ensures.moved
    ∙ taken_is c.args.externs.now (moves_in c.args.self.now) c.args.text.now c.in_ok-card.card.size (c.in_ok-card.card.worth.value, c.in_ok-card.card.worth.weight) (search rules)
    c.in_ok-card.ensures.size c.in_ok-card.ensures.worth

pub returns-clause-place : goal.returns-clause-place
returns-clause-place c = omega (arith, c.in_ok-taking.ensures.place, c.in_ok-card.ensures.within)
