use Rattle.std.proofs.Common.{arith, ◌+◌, ℕ, ap}
use Rattle.fap_listing.proofs.ModuleRows.{count_next}
use Rattle.fap_listing.proofs.module.place_count.Goals as goal

pub loop-row-preserved : goal.loop-row-preserved
loop-row-preserved c = record {
  rest = count_next c.args.rows.now c.loop-row.row-index c.row-item.result c.loop-row.places (c.loop-row.places + (c.from.result + c.len.result)) _ c.len.result
      c.loop-row-test.true c.row-item.is c.len.ensures c.loop-row.invariant.rest (ap (λ (n : ℕ). c.loop-row.places + (n + c.len.result)) c.from.ensures);
  within = omega (arith, c.loop-row.invariant.within, c.len.type_inv, c.from.ensures);
}
