use Rattle.std.proofs.Common.{arith}
use Rattle.fap_assemble.proofs.Moving.{rest_named}
use Rattle.fap_assemble.proofs.past.named_by.Goals as goal

pub loop-card-preserved : goal.loop-card-preserved
loop-card-preserved c = record {
  rest = rest_named c.args.operation.now c.args.cards.now c.loop-card.card-index c.card-item.result c.as_slice.result.now c.loop-card.names c.in_ok-next.next _
      c.loop-card-test.true c.card-item.is c.as_slice.ensures c.loop-card.invariant.rest c.in_ok-next.ensures.value;
  few = omega (arith, c.loop-card.invariant.few, c.in_ok-next.ensures.few);
}
