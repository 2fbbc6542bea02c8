-- proof: the words of a card, whatever it is.
use Rattle.std.specs.Prelude.{ℕ, List}
use Rattle.fap_model.specs.Places.{Known}
use Rattle.fap_model.specs.Decks.{Whole, operation_in, words_by}

abbrev pub words_shown : Whole → Known → List ℕ → List ℕ
words_shown whole k card = words_by whole k (operation_in card) card
