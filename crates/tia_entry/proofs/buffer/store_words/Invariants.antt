use Rattle.std.proofs.Common.{◌≡◌, ◌≤◌, ◌+◌, length, drop}
use Rattle.program_model.specs.Lines.{with_words}
use Rattle.tia_entry.proofs.buffer.store_words.Given as goal

abbrev pub invariant-storing : goal.invariant-storing
invariant-storing g l = record {
  words : with_words (g.M.MemoryPort.words l.core) (l.at + l.i) (drop l.i l.words) ≡ with_words (g.M.MemoryPort.words l.fn.core) l.at l.words;
  within : l.at + length l.words ≤ length (g.M.MemoryPort.words l.core);
  keeps : g.M.MemoryPort.Keeps l.fn.core l.core;
}
