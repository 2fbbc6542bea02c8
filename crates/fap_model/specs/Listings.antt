-- claim: that a listing shows the deck and the faults of its cards.
use Rattle.std.specs.Prelude.{◌≡◌, ℕ, ◌≤◌, ◌+◌, ◌++◌, [], ◌∷◌, List, length, if◌then◌else◌, nat_eq, Option, Some, map}
use Rattle.std.specs.List.{IsDistinct}
use Rattle.fap_model.specs.Places.{Known}
use Rattle.fap_model.specs.Decks.{Whole, faults_of, segments_of, add_words}
use Rattle.fap_model.specs.Causes.{FaultCause, cause_of, column_of}
use Rattle.fap_model.specs.Listed.{SymbolValue, listed, faults_shown, laid}
use Rattle.fap_model.specs.Statements.{Operation}

-- the faults that the rows show, with the missing END's, are those of the cards
abbrev pub ShowsFaults : Type 0
ShowsFaults =
    (cards : List (List ℕ)) → faults_shown 1 (listed cards).rows ++ (if (listed cards).has_end then [] else (length cards + 1, 6) ∷ []) ≡ faults_of cards

-- where there is none, the words of the rows at their places, and the literals behind them, are the segments of the deck
abbrev pub ShowsDeck : Type 0
ShowsDeck =
    (cards : List (List ℕ)) → faults_of cards ≡ []
    → add_words (laid [] (listed cards).rows) (listed cards).end_place (listed cards).literals ≡ segments_of cards

-- a column at which a card is at fault is one of its 84, or the 85th of a card that is too long
abbrev pub ColumnsLie : Type 0
ColumnsLie =
    (o : Option Operation) (whole : Whole) (k : Known) (card : List ℕ) (cause : FaultCause)
    → cause_of whole k card ≡ Some cause → (1 ≤ column_of o whole k card (Some cause)) × (column_of o whole k card (Some cause) ≤ 85)

-- no two symbols of the table have one name
abbrev pub NamesDiffer : Type 0
NamesDiffer = (cards : List (List ℕ)) → IsDistinct nat_eq (map (λ (s : SymbolValue). s.name) (listed cards).symbols)
