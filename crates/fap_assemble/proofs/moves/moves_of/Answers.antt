use Rattle.std.proofs.Common.{arith}
use Rattle.fap_assemble.specs.Moving.{moves_in}
use Rattle.fap_assemble.proofs.Moving.{rest_moved, rest_literals}
use Rattle.fap_assemble.proofs.moves.moves_of.Goals as goal

pub loop-card-preserved : goal.loop-card-preserved
loop-card-preserved c = record {
  rest = rest_moved c.args.externs.now c.args.cards.now c.loop-card.card-index c.card-item.result c.as_slice.result.now (moves_in c.loop-card.moves) (moves_in c.enter.new.self) _
      c.loop-card-test.true c.card-item.is c.as_slice.ensures c.loop-card.invariant.rest c.in_ok-enter.ensures.moved;
  literals = rest_literals c.args.cards.now c.loop-card.card-index c.card-item.result c.as_slice.result.now c.loop-card.moves.literals c.enter.new.self.literals _
      c.loop-card-test.true c.card-item.is c.as_slice.ensures c.loop-card.invariant.literals c.in_ok-enter.ensures.literals;
  place = omega (arith, c.loop-card.invariant.place, c.in_ok-enter.ensures.place);
  equs = omega (arith, c.loop-card.invariant.equs, c.in_ok-enter.ensures.equs);
  few = omega (arith, c.loop-card.invariant.few, c.in_ok-enter.ensures.few);
}
