use Rattle.std.proofs.Common.{◌≡◌, ◌+◌, ◌-◌, ◌^◌, min, length, take}
use Rattle.time_sharing.specs.Texts.{written, sent}
use Rattle.console_texts.proofs.counting.add_items.Given as goal

abbrev pub invariant-items : goal.invariant-items
invariant-items l = record {
  sum : l.sum ≡ min (l.total + length (sent (written (take l.i l.items)))) (2 ^ 64 - 1);
  end : l.i-end ≡ length l.items;
}
