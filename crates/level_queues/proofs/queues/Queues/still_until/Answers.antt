use Rattle.std.proofs.Common.{rules, subst}
use Rattle.plan_model.specs.Spent.{NobodyRises}
use Rattle.level_queues.proofs.Rising.{never, before, not_before_all}
use Rattle.level_queues.proofs.queues.Queues.still_until.Goals as goal

pub returns-then-self-eq0 : goal.returns-then-self-eq0
returns-then-self-eq0 c = subst (NobodyRises c.args.served.now 18446744073709551615) c.self.view_is (never 18446744073709551615 c.args.served.now _ (search rules))

pub returns-then-covers : goal.returns-then-covers
returns-then-covers c = subst (NobodyRises c.args.served.now c.self.inside.soon) c.self.view_is (before c.self.inside.soon c.self.inside.besides c.args.served.now _ (search rules) c.self.invariant.3 (search rules))

pub returns-else-covers : goal.returns-else-covers
returns-else-covers c = not_before_all c.args.served.now c.args.self.now
