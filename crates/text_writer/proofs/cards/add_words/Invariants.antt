use Rattle.std.proofs.Common.{take}
use Rattle.std.specs.List.{flat_map}
use Rattle.text_model.specs.Canonical.{octal}
use Rattle.text_writer.specs.Writing.{Adds}
use Rattle.text_writer.proofs.cards.add_words.Given as goal

abbrev pub invariant-loop-word : goal.invariant-loop-word
invariant-loop-word g l = Adds g.K.Sink (flat_map octal (take l.word-index l.words)) l.fn.out l.out
