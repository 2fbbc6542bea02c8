use Rattle.std.proofs.Common.{◌≡◌, ◌++◌, drop, map}
use Rattle.link_model.specs.ModuleCards.{cell}
use Rattle.fap_assemble.proofs.cells.add_words.Given as goal

abbrev pub invariant-loop-word : goal.invariant-loop-word
invariant-loop-word l = l.places ++ map (cell l.kind) (drop l.word-index l.words) ≡ l.fn.places ++ map (cell l.kind) l.words
