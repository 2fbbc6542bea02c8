-- claim: what the cards of a program come to, as a listing shows it.
use Rattle.std.specs.Prelude.{ℕ, suc, Bool, true, false, List, [], ◌∷◌, ◌++◌, map, if◌then◌else◌, Option, Some, None}
use Rattle.std.specs.List.{flat_map}
use Rattle.fap_model.specs.Cards.{is_comment, field_of, symbol_of}
use Rattle.fap_model.specs.Terms.{begins_literal, term_of, items_of, signed_texts}
use Rattle.fap_model.specs.declared.types.Term.{Term}
use Rattle.fap_model.specs.declared.types.Term.TheVariants.{Named, Number, Here}
use Rattle.fap_model.specs.Statements.{Operation, Form, parts, octal_half, empty, one_value, decimals, octals, characters, form_of}
use Rattle.fap_model.specs.Places.{Known, nothing_known, known_behind}
use Rattle.fap_model.specs.Decks.{Whole, Segment, operation_in, cards_read, has_end, whole_of, words_by, start_from, fault_entry, add_words}
use Rattle.fap_model.specs.Causes.{FaultCause, fault_number, cause_of, column_of}
pub use Rattle.fap_model.specs.declared.types.CardRow.{CardRow}
pub use Rattle.fap_model.specs.declared.types.SymbolValue.{SymbolValue}
pub use Rattle.fap_model.specs.declared.types.Mention.{Mention}
pub use Rattle.fap_model.specs.declared.types.Listed.{Listed}

-- words are shown of a card that isn't at fault
abbrev pub sound_words : Option FaultCause → List ℕ → List ℕ
sound_words None words = words
sound_words (Some cause) words = []

abbrev pub row_of : Whole → Known → List ℕ → CardRow
row_of whole k card =
    record {
      place = k.place;
      cause = cause_of whole k card;
      column = column_of (operation_in card) whole k card (cause_of whole k card);
      words = sound_words (cause_of whole k card) (words_by whole k (operation_in card) card);
    }

-- of each card a row
abbrev pub rows_from : Whole → Known → List (List ℕ) → List CardRow
rows_from whole k [] = []
rows_from whole k (card ∷ cards) = row_of whole k card ∷ rows_from whole (known_behind k card) cards

-- mentions

abbrev pub mentioned : ℕ → Option ℕ → List Mention
mentioned n None = []
mentioned n (Some name) = record { name = name; card = n } ∷ []

-- the symbol in a card's columns
abbrev pub defined_on : ℕ → List ℕ → List Mention
defined_on n card = mentioned n (if is_comment card then None else symbol_of card)

abbrev pub name_in : Option Term → Option ℕ
name_in None = None
name_in (Some (Named name)) = Some name
name_in (Some (Number number)) = None
name_in (Some Here) = None

-- the symbols among the terms of an item; a literal has none
abbrev pub used_in : ℕ → List ℕ → List Mention
used_in n item =
    if begins_literal item then [] else flat_map (λ (p : ℕ × List ℕ). mentioned n (name_in (term_of p.1))) (signed_texts item)

-- whether a field of a form has expressions
abbrev pub has_expressions : Form → Bool
has_expressions (parts most) = true
has_expressions octal_half = false
has_expressions empty = false
has_expressions one_value = true
has_expressions decimals = false
has_expressions octals = false
has_expressions characters = false

-- the symbols in a card's field
abbrev pub used_by : ℕ → Option Operation → List ℕ → List Mention
used_by n None card = []
used_by n (Some o) card = if has_expressions (form_of o) then flat_map (used_in n) (items_of (field_of card)) else []

abbrev pub used_on : ℕ → List ℕ → List Mention
used_on n card = used_by n (operation_in card) card

-- of all cards, the first of which has this number
abbrev pub mentions_from : (ℕ → List ℕ → List Mention) → ℕ → List (List ℕ) → List Mention
mentions_from mentions n [] = []
mentions_from mentions n (card ∷ cards) = mentions n card ++ mentions_from mentions (suc n) cards

abbrev pub symbol_value : ℕ × ℕ → SymbolValue
symbol_value p = record { name = p.0; value = p.1 }

-- all that a listing shows of a program's cards
unfoldable pub listed : List (List ℕ) → Listed
listed cards =
    let whole = whole_of cards in
    record {
      rows = rows_from whole nothing_known (cards_read cards);
      symbols = map symbol_value whole.names;
      definitions = mentions_from defined_on 1 (cards_read cards);
      uses = mentions_from used_on 1 (cards_read cards);
      literals = whole.literals;
      end_place = whole.end_place;
      blocks = whole.blocks;
      start = start_from whole nothing_known cards;
      has_end = has_end cards;
    }

-- the faults that rows show, the first of which is the card of this number
abbrev pub faults_shown : ℕ → List CardRow → List (ℕ × ℕ)
faults_shown n [] = []
faults_shown n (row ∷ rows) = fault_entry n (fault_number row.cause) ++ faults_shown (suc n) rows

-- the words of rows, each row's at its place, behind segments
abbrev pub laid : List Segment → List CardRow → List Segment
laid ss [] = ss
laid ss (row ∷ rows) = laid (add_words ss row.place row.words) rows
