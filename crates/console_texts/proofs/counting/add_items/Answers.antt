use Rattle.std.proofs.Common.{arith}
use Rattle.console_texts.proofs.Bytes.{items_count}
use Rattle.console_texts.proofs.counting.add_items.Goals as goal

pub items-preserved : goal.items-preserved
items-preserved c = record {
  sum =
      let e = items_count c.args.items.now c.items.i c.index-items-i.result (let n = c.items.invariant.end in let t = c.items-test.true in omega (arith, n, t)) c.index-items-i.is in
      let s = c.saturating_add-sum.ensures in
      let k = c.items.invariant.sum in
      let n = c.item_len.ensures in
      omega (arith, e, s, k, n);
  end = c.items.invariant.end;
}
