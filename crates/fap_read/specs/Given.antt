-- proof: words that a card gives.
use Rattle.std.specs.Prelude.{ℕ, ◌*◌, ◌++◌, Bool, true, false, List, take, replicate, Option}
use Rattle.fap_model.specs.Statements.{packed_words}
use Rattle.fap_model.specs.declared.types.Operation.{Operation}
use Rattle.fap_model.specs.declared.types.Operation.TheVariants.{Dec as dec, Oct as oct, Bci as bci}
use Rattle.fap_model.specs.Terms.{decimal_word, octal_number}

-- the operations that give words
abbrev pub gives_words : Operation → Bool
gives_words dec = true
gives_words oct = true
gives_words bci = true
gives_words _ = false

-- an item's word: octal digits, or a signed decimal number
abbrev pub item_word : Bool → List ℕ → Option ℕ
item_word true = octal_number 12
item_word false = decimal_word

-- so many words of a text, with blanks behind it
abbrev pub words_in : ℕ → List ℕ → List ℕ
words_in count text = packed_words count (take (6 * count) (text ++ replicate (6 * count) 32))
