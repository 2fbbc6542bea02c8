use Rattle.std.proofs.Common.{◌≡◌, ◌++◌, ℕ, List, length, take}
use Rattle.console_texts.specs.Copying.{IsCopied}
use Rattle.console_texts.proofs.copying.put_bytes.Given as goal

abbrev pub invariant-bytes : goal.invariant-bytes
invariant-bytes l = record {
  copied : (from : ℕ) (text slice : List ℕ) → IsCopied from text slice l.fn.window l.fn.into → IsCopied from (text ++ take l.i l.bytes) slice l.window l.into;
  end : l.i-end ≡ length l.bytes;
}
