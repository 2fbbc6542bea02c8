use Rattle.std.proofs.Common.{rules, arith}
use Rattle.fap_assemble.specs.Fields.{known_at}
use Rattle.fap_assemble.specs.Wholes.{whole_in}
use Rattle.fap_assemble.proofs.Follows.{follows_at, seen_at}
use Rattle.fap_assemble.proofs.Listings.{row_added}
use Rattle.fap_assemble.proofs.listing.rows_of.Goals as goal

pub loop-card-preserved : goal.loop-card-preserved
loop-card-preserved c =
    let next = seen_at c.args.whole.now.symbols c.args.cards.now c.loop-card.card-index c.card-item.result c.as_slice-text.result.now c.loop-card.visible c.loop-card.place
    c.visible_behind-visible.result c.in_ok-next.next
    c.loop-card-test.true c.card-item.is c.as_slice-text.ensures c.loop-card.invariant.follows (search rules) c.visible_behind-visible.ensures.value in
    record {
      rest = row_added (whole_in c.args.whole.now) c.args.cards.now c.loop-card.card-index c.card-item.result c.as_slice-text.result.now
          (known_at c.args.whole.now.symbols c.loop-card.visible c.loop-card.place) (known_at c.args.whole.now.symbols c.visible_behind-visible.result c.in_ok-next.next)
          c.in_ok-row.row c.loop-card.rows c.push.new.self _ c.loop-card-test.true c.card-item.is c.as_slice-text.ensures c.loop-card.invariant.rest c.in_ok-row.ensures
          (search rules) next;
      follows = follows_at c.args.whole.now.symbols c.args.cards.now c.loop-card.card-index c.card-item.result c.as_slice-text.result.now c.loop-card.visible c.loop-card.place _ _
          c.loop-card-test.true c.card-item.is c.as_slice-text.ensures c.loop-card.invariant.follows (search rules) c.visible_behind-visible.ensures.value;
      place = omega (arith, c.loop-card.invariant.place, c.in_ok-next.ensures.within);
      visible = omega (arith, c.loop-card.invariant.visible, c.visible_behind-visible.ensures.few);
    }
