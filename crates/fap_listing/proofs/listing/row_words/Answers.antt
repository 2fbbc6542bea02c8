use Rattle.std.proofs.Common.{arith, ◌+◌, refl}
use Rattle.fap_listing.proofs.Rows.{count_next}
use Rattle.fap_listing.proofs.listing.row_words.Goals as goal

pub loop-row-preserved : goal.loop-row-preserved
loop-row-preserved c = record {
  rest = count_next c.args.rows.now c.loop-row.row-index c.row-item.result c.loop-row.words (c.loop-row.words + c.len.result) _ c.len.result
      c.loop-row-test.true c.row-item.is c.len.ensures c.loop-row.invariant.rest refl;
  within = omega (arith, c.loop-row.invariant.within, c.len.type_inv);
}
