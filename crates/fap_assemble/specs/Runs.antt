-- proof: the words of cards, as segments grow by them.
use Rattle.std.specs.Prelude.{List, [], ◌∷◌, ℕ}
use Rattle.bss_loader.specs.Runs.{Open, words_in}
use Rattle.fap_model.specs.Places.{Known, known_behind}
use Rattle.fap_model.specs.Decks.{Whole, words_by, operation_in}

-- the words of cards, at the places from what is known
abbrev pub cards_in : Whole → Open → Known → List (List ℕ) → Open
cards_in whole o k [] = o
cards_in whole o k (card ∷ cards) = cards_in whole (words_in o k.place (words_by whole k (operation_in card) card)) (known_behind k card) cards
