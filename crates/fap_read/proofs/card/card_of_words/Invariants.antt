use Rattle.std.proofs.Common.{◌≡◌, take}
use Rattle.std.specs.List.{flat_map}
use Rattle.bcd48.specs.Words.{characters_of}
use Rattle.fap_read.proofs.card.card_of_words.Given as goal

abbrev pub invariant-words : goal.invariant-words
invariant-words l = l.text.items ≡ flat_map characters_of (take l.word-index l.words)
