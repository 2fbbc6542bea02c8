-- claim: what the cards of a module come to, as a listing shows it.
use Rattle.std.specs.Prelude.{◌≡◌, ℕ, zero, suc, ◌+◌, List, [], ◌∷◌, ◌++◌, length, map, replicate, if◌then◌else◌, Option, Some, None}
use Rattle.std.specs.List.{flat_map}
use Rattle.fap_model.specs.declared.types.Operation.{Operation}
use Rattle.fap_model.specs.declared.types.Operation.TheVariants.{Bss as bss}
use Rattle.fap_model.specs.Places.{or_zero}
use Rattle.fap_model.specs.Decks.{cards_read, has_end, words_by, fault_entry}
use Rattle.fap_model.specs.Listed.{symbol_value, mentions_from, defined_on, used_on}
use Rattle.link_model.specs.Modules.{ModulePlace}
use Rattle.link_model.specs.Moves.{Moved, nothing_moved, module_operation, moved_size, moved_behind, moved_after}
use Rattle.link_model.specs.ModuleCards.{Relocated, relocated_of, card_kind, module_fault, module_faults, cell, entries_of, module_start, module_of_cards}
pub use Rattle.link_model.specs.declared.types.ModuleRow.{ModuleRow}
pub use Rattle.link_model.specs.declared.types.ListedModule.{ListedModule}

-- how many places a card reserves, of one that isn't at fault
abbrev pub places_reserved : Relocated → Moved → (fault : ℕ) → Option Operation → List ℕ → ℕ
places_reserved r m zero (Some bss) card = moved_size r.externs m (Some bss) card
places_reserved r m f o card = 0

-- the kind of a card's words, if it has any
abbrev pub kind_placed : Relocated → Moved → Option Operation → List ℕ → ℕ
kind_placed r m None card = 0
kind_placed r m (Some o) card = or_zero (card_kind o r m card)

-- the words of a card, of one that isn't at fault; what is reserved is no word
abbrev pub words_placed : Relocated → Moved → (fault : ℕ) → Option Operation → List ℕ → List ℕ
words_placed r m zero o card = words_by r.whole m.known o card
words_placed r m (suc f) o card = []

abbrev pub module_row : Relocated → Moved → (before : List (List ℕ)) → List ℕ → ModuleRow
module_row r m before card =
    record {
      place = m.known.place;
      fault = module_fault r m before card;
      reserved = places_reserved r m (module_fault r m before card) (module_operation card) card;
      kind = kind_placed r m (module_operation card) card;
      words = words_placed r m (module_fault r m before card) (module_operation card) card;
    }

-- of each card a row
abbrev pub module_rows_from : Relocated → Moved → (before cards : List (List ℕ)) → List ModuleRow
module_rows_from r m before [] = []
module_rows_from r m before (card ∷ cards) = module_row r m before card ∷ module_rows_from r (moved_behind r.externs m card) (before ++ card ∷ []) cards

-- all that a listing shows of a module's cards; the symbols are those in the cards' columns
unfoldable pub listed_module : List (List ℕ) → ListedModule
listed_module cards =
    let r = relocated_of cards in
    record {
      rows = module_rows_from r nothing_moved [] (cards_read cards);
      symbols = map symbol_value (moved_after r.externs nothing_moved (cards_read cards)).known.symbols;
      definitions = mentions_from defined_on 1 (cards_read cards);
      uses = mentions_from used_on 1 (cards_read cards);
      entries = entries_of r (cards_read cards);
      externs = r.externs;
      literals = r.whole.literals;
      end_place = r.whole.end_place;
      start = module_start r nothing_moved cards;
      has_end = has_end cards;
    }

-- the faults that rows show, the first of which is the card of this number
abbrev pub module_faults_shown : ℕ → List ModuleRow → List (ℕ × ℕ)
module_faults_shown n [] = []
module_faults_shown n (row ∷ rows) = fault_entry n row.fault ++ module_faults_shown (suc n) rows

-- the places of a row: what its card reserves, or its words
abbrev pub row_places : ModuleRow → List ModulePlace
row_places row = replicate row.reserved (cell 0 0) ++ map (cell row.kind) row.words

-- the faults that the rows show, with the missing END's, are those of the cards
abbrev pub ModuleShowsFaults : Type 0
ModuleShowsFaults =
    (cards : List (List ℕ))
    → module_faults_shown 1 (listed_module cards).rows ++ (if (listed_module cards).has_end then [] else (length cards + 1, 6) ∷ []) ≡ module_faults cards

-- where there is none, the places of the rows, and the literals behind them, are those of the module
abbrev pub ModuleShowsPlaces : Type 0
ModuleShowsPlaces =
    (cards : List (List ℕ)) → module_faults cards ≡ []
    → flat_map row_places (listed_module cards).rows ++ map (cell 0) (listed_module cards).literals ≡ (module_of_cards cards).places
