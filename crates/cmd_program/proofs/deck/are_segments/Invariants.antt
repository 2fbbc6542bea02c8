use Rattle.std.proofs.Common.{◌≡◌, drop}
use Rattle.program_model.specs.Decks.{are_segments}
use Rattle.cmd_program.proofs.deck.are_segments.Given as goal

abbrev pub invariant-segments : goal.invariant-segments
invariant-segments l = are_segments l.size l.left (drop l.word-index l.words) ≡ are_segments l.size 0 l.words
