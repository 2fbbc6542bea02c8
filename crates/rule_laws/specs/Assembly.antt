-- claim: cards without a fault are assembled to a deck that is read and stored as those cards.
use Rattle.std.specs.Prelude.{◌≡◌, ℕ, ◌+◌, ◌*◌, ◌≤◌, length, All, nat_le, if◌then◌else◌, List, [], ◌∷◌, ◌++◌, Ok, Err}
use Rattle.program_model.specs.declared.Deck.{Deck}
use Rattle.program_model.specs.declared.LoadFault.TheVariants.{TooLarge}
use Rattle.program_model.specs.Decks.{deck_in, filled}
use Rattle.fap_model.specs.Places.{nothing_known}
use Rattle.fap_model.specs.Decks.{Whole, Segment, operation_in, cards_before_end, whole_of, words_by, start_from, deck, assembled}
use Rattle.rule_laws.specs.Cards.{known}
use Rattle.rule_laws.specs.Decks.{AreStored}

-- the words of each card behind others at its place
abbrev pub words_of_cards : Whole → (before cards : List (List ℕ)) → List Segment
words_of_cards whole before [] = []
words_of_cards whole before (card ∷ cards) =
    record { first = (known before).place; words = words_by whole (known before) (operation_in card) card }
    ∷ words_of_cards whole (before ++ card ∷ []) cards

-- the literals behind the last card
abbrev pub literals_of : Whole → Segment
literals_of whole = record { first = whole.end_place; words = whole.literals }

-- those of all cards before END, and the literals
abbrev pub all_words_of : List (List ℕ) → List Segment
all_words_of cards = words_of_cards (whole_of cards) [] (cards_before_end cards) ++ literals_of (whole_of cards) ∷ []

-- END's start and the blocks
abbrev pub deck_said : List (List ℕ) → Deck
deck_said cards = record { start = start_from (whole_of cards) nothing_known cards; blocks = (whole_of cards).blocks }

-- a segment without words, or within so many
abbrev pub IsWithin : ℕ → Segment → Type 0
IsWithin size s = 1 ≤ length s.words → s.first + length s.words ≤ size

-- The words of a deck say END's start and the blocks, where the user may have so many; and stored over a core they
-- leave each card's words at its place and the literals behind the last card, later ones over earlier ones. All these
-- lie within the blocks.
pub record IsLoadedAs (cards : List (List ℕ)) (words : List ℕ) : Type 0 where
  pub said :
      (quota : ℕ)
      → deck_in quota words ≡ (if nat_le (whole_of cards).blocks quota then Ok (deck_said cards) else Err TooLarge)
  pub stored : (core : List ℕ) → AreStored (all_words_of cards) core (filled words core)
  pub inside : All (IsWithin (256 * (whole_of cards).blocks)) (all_words_of cards)

abbrev pub DeckIsStored : Type 0
DeckIsStored = (cards : List (List ℕ)) (words : List ℕ) → assembled cards ≡ deck words → IsLoadedAs cards words
