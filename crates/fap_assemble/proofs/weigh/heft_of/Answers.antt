use Rattle.std.proofs.Common.{rules, arith}
use Rattle.std.proofs.lemmas.Bool.Decides.{nat_tests}
use Rattle.std.specs.Option.{option_map}
use Rattle.fap_read.specs.Peeled.{parts_behind, sign_byte}
use Rattle.fap_assemble.proofs.Weighing.{stopped, finished}
use Rattle.fap_assemble.specs.Names.{externs_in, names_in}
use Rattle.fap_assemble.proofs.weigh.heft_of.Goals as goal

pub returns-in_default-term-clause-value : goal.returns-in_default-term-clause-value
returns-in_default-term-clause-value c =
    stopped (externs_in c.args.weights) (names_in c.args.weights) c.args.text.now c.terms.sum (option_map (λ p. (p.0, p.1.now)) c.terms.next) c.in-Some.minus c.in-Some.rest.now
    c.first_term.result.0.now (parts_behind (option_map (λ p. (p.0, p.1.now)) c.first_term.result.1)) (grind (arith, nat_tests)) (search rules)
    (c.first_term.ensures.parts (sign_byte c.in-Some.minus)) (search rules) c.terms.invariant.rest

pub returns-clause-value : goal.returns-clause-value
returns-clause-value c =
    finished (externs_in c.args.weights) (names_in c.args.weights) c.args.text.now c.terms.sum (option_map (λ p. (p.0, p.1.now)) c.terms.next) (grind (arith, nat_tests)) (search rules)
    c.terms.invariant.rest
