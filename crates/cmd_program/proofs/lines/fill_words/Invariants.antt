use Rattle.std.proofs.Common.{◌≡◌, ◌++◌, ◌-◌, length, take}
use Rattle.program_model.specs.Lines.{words_of_line}
use Rattle.cmd_program.proofs.lines.fill_words.Given as goal

abbrev pub invariant-loop-word : goal.invariant-loop-word
invariant-loop-word l =
    take l.word-index l.words ++ words_of_line (length l.fn.words - l.word-index) l.rest ≡ words_of_line (length l.fn.words) l.text
