-- claim: the cards of a module at the places where they come to lie: the first place is one that is given, and each extern
-- has a value.
use Rattle.std.specs.Prelude.{ℕ, List, [], ◌∷◌, ◌++◌, map, codes}
use Rattle.fap_model.specs.Places.{Known, known_behind, known_after, value_in, or_zero}
use Rattle.fap_model.specs.Decks.{Whole, Segment, operation_in, cards_read, cards_before_end, literals_with, words_by}
use Rattle.link_model.specs.ModuleCards.{named_by}

-- nothing before the first place
abbrev pub known_at_base : ℕ → Known
known_at_base base = record { place = base; symbols = [] }

-- the externs with their values, before other symbols
abbrev pub with_values : List (ℕ × ℕ) → List ℕ → List (ℕ × ℕ) → List (ℕ × ℕ)
with_values entries externs symbols = map (λ name. (name, or_zero (value_in entries name))) externs ++ symbols

-- what only all cards together tell; a module's blocks are none of theirs
abbrev pub whole_at : List (List ℕ) → ℕ → List (ℕ × ℕ) → Whole
whole_at cards base entries =
    record {
      names = with_values entries (named_by (codes "EXTERN") (cards_read cards)) (known_after (known_at_base base) (cards_read cards)).symbols;
      literals = literals_with [] (cards_read cards);
      end_place = (known_after (known_at_base base) (cards_before_end cards)).place;
      blocks = 0;
    }

-- the words of each card at its place
abbrev pub laid_from : Whole → Known → List (List ℕ) → List Segment
laid_from whole k [] = []
laid_from whole k (card ∷ cards) =
    record { first = k.place; words = words_by whole k (operation_in card) card } ∷ laid_from whole (known_behind k card) cards

-- and the literals behind the last card
abbrev pub laid_at : List (List ℕ) → ℕ → List (ℕ × ℕ) → List Segment
laid_at cards base entries =
    let whole = whole_at cards base entries in
    laid_from whole (known_at_base base) (cards_before_end cards) ++ record { first = whole.end_place; words = whole.literals } ∷ []
