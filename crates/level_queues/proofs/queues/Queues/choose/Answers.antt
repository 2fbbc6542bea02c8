use Rattle.std.proofs.Common.{Some, sym, ap, ◌∙◌}
use Rattle.ctss_types.specs.declared.session.Waiting.{Waiting}
use Rattle.plan_model.specs.Levels.{since_in}
use Rattle.level_queues.proofs.queues.Queues.choose.Goals as goal

pub returns-in-Some-clause-some : goal.returns-in-Some-clause-some
returns-in-Some-clause-some c =
    let w : Waiting = record { user = c.in-Some.waiting.user; left = c.in-Some.waiting.left; since = c.in-Some.waiting.since } in
    let since = ap since_in c.in-Some.ensures.value in
    sym c.in-Some.ensures.value ∙ (λ i. Some (c.in-Some.level, record w { user = sym c.of.ensures i; since = since i }))
