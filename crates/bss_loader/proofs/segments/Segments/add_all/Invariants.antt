use Rattle.std.proofs.Common.{◌≡◌, ◌+◌, drop}
use Rattle.bss_loader.specs.Runs.{words_in}
use Rattle.bss_loader.proofs.segments.Segments.add_all.Given as goal

abbrev pub invariant-loop-word : goal.invariant-loop-word
invariant-loop-word l = record {
  place : l.at ≡ l.fn.place + l.word-index;
  words : words_in l.self l.at (drop l.word-index l.words) ≡ words_in l.fn.self l.fn.place l.words;
}
