use Rattle.std.proofs.Common.{◌≡◌, ◌-◌, ◌^◌, min, length, take}
use Rattle.std.specs.List.{flat_map}
use Rattle.console_texts.specs.Parts.{piece_text}
use Rattle.console_texts.proofs.row.Row.text_len.Given as goal

abbrev pub invariant-pieces : goal.invariant-pieces
invariant-pieces g l = record {
  total : l.total ≡ min (length (flat_map (piece_text (g.T.Transcripts.all l.transcripts)) (take l.i l.self.shown.pieces))) (2 ^ 64 - 1);
  end : l.i-end ≡ length l.self.shown.pieces;
}
