use Rattle.std.proofs.Common.{arith}
use Rattle.fap_assemble.proofs.Passes.{comes_at}
use Rattle.fap_assemble.proofs.tables.tables_of.Goals as goal

pub loop-card-preserved : goal.loop-card-preserved
loop-card-preserved c = record {
  rest = comes_at c.args.cards.now c.loop-card.card-index c.card-item.result c.as_slice.result.now c.loop-card.tables c.enter.new.self _ _ _ c.loop-card-test.true c.card-item.is
      c.as_slice.ensures c.loop-card.invariant.rest c.in_ok-enter.ensures.known c.in_ok-enter.ensures.literals c.in_ok-enter.ensures.reach;
  few = omega (arith, c.loop-card.invariant.few, c.in_ok-enter.ensures.few);
  place = omega (arith, c.loop-card.invariant.place, c.in_ok-enter.ensures.place_within);
  reach = omega (arith, c.loop-card.invariant.place, c.loop-card.invariant.reach, c.in_ok-enter.ensures.reach_within);
}
