use Rattle.std.proofs.Common.{◌≡◌, ◌++◌, ℕ, List, length, take}
use Rattle.time_sharing.specs.Texts.{written, sent}
use Rattle.console_texts.specs.Copying.{IsCopied}
use Rattle.console_texts.proofs.copying.put_items.Given as goal

abbrev pub invariant-items : goal.invariant-items
invariant-items l = record {
  copied : (from : ℕ) (text slice : List ℕ) → IsCopied from text slice l.fn.window l.fn.into → IsCopied from (text ++ sent (written (take l.i l.items))) slice l.window l.into;
  end : l.i-end ≡ length l.items;
}
