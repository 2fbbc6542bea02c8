use Rattle.fap_assemble.proofs.Rosters.{numbers_grown}
use Rattle.fap_assemble.proofs.roster.Roster.with.Goals as goal

pub invariant_of-result : goal.invariant_of-result
invariant_of-result c =
    numbers_grown c.self.inside.numbers.entries c.in_ok-numbers.numbers.entries c.self.inside.names c.push.new.self c.args.name c.len-number.result c.self.invariant
    c.in_ok-numbers.ensures c.len-number.ensures c.in_ok-push.ensures.ok
