use Rattle.std.proofs.Common.{◌≡◌, take}
use Rattle.medium.specs.Medium.{AreWords}
use Rattle.file_tracks.proofs.words.padded.Given as goal

abbrev pub invariant-loop-word : goal.invariant-loop-word
invariant-loop-word l = record {
  words : l.bits.items ≡ take l.word-index l.words;
  all : AreWords l.bits.items;
}
