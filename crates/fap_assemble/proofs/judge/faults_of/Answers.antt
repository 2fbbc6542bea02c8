use Rattle.std.proofs.Common.{rules, arith, ◌+◌}
use Rattle.fap_assemble.specs.Fields.{known_at}
use Rattle.fap_assemble.specs.Wholes.{whole_in}
use Rattle.fap_assemble.specs.Follows.{numbered}
use Rattle.fap_assemble.proofs.Follows.{faults_at, follows_at, seen_at}
use Rattle.fap_assemble.proofs.judge.faults_of.Goals as goal

pub loop-card-preserved : goal.loop-card-preserved
loop-card-preserved c = record {
  rest = faults_at (whole_in c.args.whole.now) c.args.cards.now c.loop-card.card-index c.card-item.result c.as_slice-text.result.now
      (known_at c.args.whole.now.symbols c.loop-card.visible c.loop-card.place) (known_at c.args.whole.now.symbols c.visible_behind-visible.result c.in_ok-next.next)
      c.loop-card.number (c.loop-card.number + 1) c.in_ok-fault.fault (numbered c.loop-card.faults) (numbered c.note.new.faults) _
      c.loop-card-test.true c.card-item.is c.as_slice-text.ensures c.loop-card.invariant.rest c.in_ok-fault.ensures c.in_ok-note.ensures
      (seen_at c.args.whole.now.symbols c.args.cards.now c.loop-card.card-index c.card-item.result c.as_slice-text.result.now c.loop-card.visible c.loop-card.place _ _
      c.loop-card-test.true c.card-item.is c.as_slice-text.ensures c.loop-card.invariant.follows (search rules) c.visible_behind-visible.ensures.value)
      (search rules);
  follows = follows_at c.args.whole.now.symbols c.args.cards.now c.loop-card.card-index c.card-item.result c.as_slice-text.result.now c.loop-card.visible c.loop-card.place _ _
      c.loop-card-test.true c.card-item.is c.as_slice-text.ensures c.loop-card.invariant.follows (search rules) c.visible_behind-visible.ensures.value;
  number = omega (arith, c.loop-card.invariant.number);
  place = omega (arith, c.loop-card.invariant.place, c.in_ok-next.ensures.within);
  visible = omega (arith, c.loop-card.invariant.visible, c.visible_behind-visible.ensures.few);
}
