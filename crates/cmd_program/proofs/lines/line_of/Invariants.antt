use Rattle.std.proofs.Common.{◌≡◌, take}
use Rattle.std.specs.List.{flat_map}
use Rattle.bcd48.specs.Words.{characters_of}
use Rattle.cmd_program.proofs.lines.line_of.Given as goal

abbrev pub invariant-loop-word : goal.invariant-loop-word
invariant-loop-word l = l.text.items ≡ flat_map characters_of (take l.word-index l.words)
