use Rattle.std.proofs.Common.{◌≡◌, ◌++◌, length}
use Rattle.std.specs.Option.{option_map}
use Rattle.fap_model.specs.Terms.{items_of, all_words}
use Rattle.fap_read.specs.Given.{item_word}
use Rattle.fap_read.proofs.words.item_words.Given as goal

abbrev pub invariant-items : goal.invariant-items
invariant-items l = option_map (λ ws. l.words ++ ws) (all_words (item_word l.octal) (items_of l.rest)) ≡ all_words (item_word l.octal) (items_of l.fn.field)

abbrev pub decreases-items : goal.decreases-items
decreases-items l = length l.rest
