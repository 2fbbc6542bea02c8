use Rattle.std.proofs.Common.{◌≡◌}
use Rattle.program_model.specs.Lines.{words_at}
use Rattle.tia_entry.proofs.buffer.words_in.Given as goal

abbrev pub invariant-reading : goal.invariant-reading
invariant-reading g l = l.words.items ≡ words_at (g.M.MemoryPort.words l.core) l.at l.i
