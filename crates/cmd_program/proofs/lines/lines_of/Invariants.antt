use Rattle.std.proofs.Common.{◌≡◌, ◌++◌}
use Rattle.std.specs.Slice.Iter.{chunks_rest, chunks_size}
use Rattle.program_model.specs.Lines.{lines_of_words}
use Rattle.cmd_program.proofs.lines.lines_of.Given as goal

abbrev pub invariant-loop-group : goal.invariant-loop-group
invariant-loop-group l = record {
  size : chunks_size l.group-iterator ≡ 14;
  lines : l.lines ++ lines_of_words (chunks_rest l.group-iterator) ≡ lines_of_words l.words;
}
