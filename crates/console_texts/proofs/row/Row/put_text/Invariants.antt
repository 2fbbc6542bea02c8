use Rattle.std.proofs.Common.{◌≡◌, ◌++◌, ℕ, List, length, take}
use Rattle.std.specs.List.{flat_map}
use Rattle.console_texts.specs.Parts.{piece_text}
use Rattle.console_texts.specs.Copying.{IsCopied}
use Rattle.console_texts.proofs.row.Row.put_text.Given as goal

abbrev pub invariant-pieces : goal.invariant-pieces
invariant-pieces g l = record {
  copied : (from : ℕ) (text slice : List ℕ) → IsCopied from text slice l.fn.window l.fn.into → IsCopied from (text ++ flat_map (piece_text (g.T.Transcripts.all l.transcripts)) (take l.i l.self.shown.pieces)) slice l.window l.into;
  end : l.i-end ≡ length l.self.shown.pieces;
}
