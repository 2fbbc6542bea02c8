-- claim: the module of a list of cards, or the faults of its cards.
use Rattle.std.specs.Prelude.{ℕ, suc, ◌+◌, Bool, false, not, ◌&&◌, ◌||◌, nat_lt, nat_le, if◌then◌else◌, List, [], ◌∷◌, ◌++◌, length, map, replicate, count_by, Option, Some, None, is_none, bytes_eq, codes}
use Rattle.std.specs.List.{list_all}
use Rattle.ctss_types.specs.Words.{name_of}
use Rattle.fap_model.specs.Cards.{is_comment, is_bad, is_symbol, flag_of, operation_of, field_of, symbol_text}
use Rattle.fap_model.specs.declared.types.Operation.{Operation}
use Rattle.fap_model.specs.declared.types.Operation.TheVariants.{Bss as bss, End as end}
use Rattle.fap_model.specs.Statements.{operation_named, field_for}
use Rattle.fap_model.specs.Places.{Known, max_place, value_in, or_zero, looks_back, fault_with}
use Rattle.fap_model.specs.Decks.{Whole, operation_in, is_end, cards_read, has_end, cards_before_end, literals_with, blocks_for, start_is_outside, start_in, words_by, fault_entry}
use Rattle.link_model.specs.Modules.{Module, ModuleEntry, ModulePlace}
use Rattle.link_model.specs.Weights.{with_externs, is_among, kind_of}
use Rattle.link_model.specs.Moves.{Moved, nothing_moved, without_org, module_operation, moved_size, moved_behind, moved_after}

-- cards whose first that is no comment has the operation REL
abbrev pub is_relocatable : List (List ℕ) → Bool
is_relocatable [] = false
is_relocatable (card ∷ cards) = if is_comment card then is_relocatable cards else bytes_eq (operation_of card) (codes "REL")

-- whether a card that is no comment has an operation of this name
abbrev pub has_operation : List ℕ → List ℕ → Bool
has_operation name card = not (is_comment card) && bytes_eq (operation_of card) name

-- the symbol that a field is
abbrev pub field_symbol : List ℕ → Option ℕ
field_symbol card = if is_symbol (field_of card) then Some (name_of (field_of card)) else None

abbrev pub with_named : Option ℕ → List ℕ → List ℕ
with_named None names = names
with_named (Some name) names = name ∷ names

-- the symbols that the cards with an operation name
abbrev pub named_by : List ℕ → List (List ℕ) → List ℕ
named_by name [] = []
named_by name (card ∷ cards) =
    if has_operation name card then with_named (field_symbol card) (named_by name cards) else named_by name cards

-- What only all cards together tell: the symbols, of which the externs come first with the value 0, the literals, the place
-- behind the last card before END and the blocks; how much symbols weigh, the EQU's, and the externs.
pub record Relocated : Type 0 where
  pub whole : Whole
  pub weights : List (ℕ × ℕ)
  pub equs : List ℕ
  pub externs : List ℕ

abbrev pub relocated_of : List (List ℕ) → Relocated
relocated_of cards =
    let read = cards_read cards in
    let externs = named_by (codes "EXTERN") read in
    let all = moved_after externs nothing_moved read in
    let literals = literals_with [] read in
    let place = (moved_after externs nothing_moved (cards_before_end cards)).known.place in
    record {
      whole =
          record {
            names = with_externs externs all.known.symbols;
            literals = literals;
            end_place = place;
            blocks = blocks_for (place + length literals);
          };
      weights = with_externs externs all.weights;
      equs = all.equs;
      externs = externs;
    }

-- faults

-- characters, a flag or a symbol that REL, ENTRY and EXTERN can't have
abbrev pub is_marked : List ℕ → Bool
is_marked card = is_bad card || (flag_of card || nat_lt 0 (length (symbol_text card)))

-- the place is behind the last one, or so many cards of the operation stand before that no more are taken
abbrev pub is_over : List ℕ → Moved → List (List ℕ) → Bool
is_over name m before = nat_le max_place m.known.place || nat_le 32766 (count_by (has_operation name) before)

-- REL, behind other cards
abbrev pub rel_fault : Moved → List (List ℕ) → List ℕ → ℕ
rel_fault m before card =
    if not (list_all is_comment before) then 1
    else (if is_marked card || nat_lt 0 (length (field_of card)) then 2 else (if nat_le max_place m.known.place then 5 else 0))

-- an ENTRY that names a symbol
abbrev pub entry_fault_of : Relocated → Moved → List (List ℕ) → Option ℕ → ℕ
entry_fault_of r m before None = 2
entry_fault_of r m before (Some name) =
    if is_among r.externs name || is_among r.equs name then 2
    else (if is_none (value_in r.whole.names name) then 3
    else (if is_among (named_by (codes "ENTRY") before) name then 4
    else (if is_over (codes "ENTRY") m before then 5 else 0)))

abbrev pub entry_fault : Relocated → Moved → List (List ℕ) → List ℕ → ℕ
entry_fault r m before card = if is_marked card then 2 else entry_fault_of r m before (field_symbol card)

-- the symbols of cards and EXTERNs so far, with what is known
abbrev pub symbols_seen : Moved → List (List ℕ) → Known
symbols_seen m before =
    record { place = m.known.place; symbols = m.known.symbols ++ with_externs (named_by (codes "EXTERN") before) [] }

abbrev pub extern_fault_of : Moved → List (List ℕ) → Option ℕ → ℕ
extern_fault_of m before None = 2
extern_fault_of m before (Some name) =
    if not (is_none (value_in (symbols_seen m before).symbols name)) then 4
    else (if is_over (codes "EXTERN") m before then 5 else 0)

abbrev pub extern_fault : Moved → List (List ℕ) → List ℕ → ℕ
extern_fault m before card = if is_marked card then 2 else extern_fault_of m before (field_symbol card)

-- the symbols that a field may use, and their weights
abbrev pub names_of : Operation → Relocated → Moved → List (ℕ × ℕ)
names_of o r m = if looks_back o then with_externs r.externs m.known.symbols else r.whole.names

abbrev pub weights_of : Operation → Relocated → Moved → List (ℕ × ℕ)
weights_of o r m = if looks_back o then with_externs r.externs m.weights else r.weights

abbrev pub card_kind : Operation → Relocated → Moved → List ℕ → Option ℕ
card_kind o r m card = kind_of o r.externs (weights_of o r m) (field_for o card)

-- the least fault of a card with an operation, which none that isn't a module's has; the last place is 32766
abbrev pub plain_fault : Option Operation → Relocated → Moved → List (List ℕ) → List ℕ → ℕ
plain_fault None r m before card = 1
plain_fault (Some end) r m before card =
    fault_with r.whole.names (length r.whole.literals + 1)
    (is_none (card_kind end r m card) || start_is_outside r.whole m.known (field_for end card)) (symbols_seen m before) end card (field_for end card)
plain_fault (Some o) r m before card =
    fault_with (names_of o r m) 1 (is_none (card_kind o r m card)) (symbols_seen m before) o card (field_for o card)

-- the least fault of a card, 0 where there is none
abbrev pub module_fault : Relocated → Moved → List (List ℕ) → List ℕ → ℕ
module_fault r m before card =
    if is_comment card then (if is_bad card then 2 else 0)
    else (if bytes_eq (operation_of card) (codes "REL") then rel_fault m before card
    else (if bytes_eq (operation_of card) (codes "ENTRY") then entry_fault r m before card
    else (if bytes_eq (operation_of card) (codes "EXTERN") then extern_fault m before card
    else plain_fault (without_org (operation_named (operation_of card))) r m before card)))

abbrev pub module_faults_from : Relocated → ℕ → Moved → (before cards : List (List ℕ)) → List (ℕ × ℕ)
module_faults_from r n m before [] = []
module_faults_from r n m before (card ∷ cards) =
    fault_entry n (module_fault r m before card)
    ++ module_faults_from r (suc n) (moved_behind r.externs m card) (before ++ card ∷ []) cards

-- the faults of all cards, with the missing END's on the card behind the last one
abbrev pub module_faults : List (List ℕ) → List (ℕ × ℕ)
module_faults cards =
    module_faults_from (relocated_of cards) 1 nothing_moved [] (cards_read cards) ++ (if has_end cards then [] else (length cards + 1, 6) ∷ [])

-- the module

abbrev pub cell : (kind word : ℕ) → ModulePlace
cell kind word = record { kind = kind; word = word }

-- the places of a card: what it reserves, or its words
abbrev pub cells_by : Relocated → Moved → Option Operation → List ℕ → List ModulePlace
cells_by r m None card = []
cells_by r m (Some bss) card = replicate (moved_size r.externs m (Some bss) card) (cell 0 0)
cells_by r m (Some o) card = map (cell (or_zero (card_kind o r m card))) (words_by r.whole m.known (Some o) card)

abbrev pub cells_from : Relocated → Moved → List (List ℕ) → List ModulePlace
cells_from r m [] = []
cells_from r m (card ∷ cards) = cells_by r m (module_operation card) card ++ cells_from r (moved_behind r.externs m card) cards

-- each ENTRY's symbol with its value
abbrev pub entries_of : Relocated → List (List ℕ) → List ModuleEntry
entries_of r cards =
    map (λ name. record { name = name; place = or_zero (value_in r.whole.names name) }) (named_by (codes "ENTRY") cards)

abbrev pub module_start : Relocated → Moved → List (List ℕ) → ℕ
module_start r m [] = 0
module_start r m (card ∷ cards) =
    if is_end (operation_in card) then start_in r.whole m.known (field_for end card)
    else module_start r (moved_behind r.externs m card) cards

-- the literals stand behind the last card
abbrev pub module_of_cards : List (List ℕ) → Module
module_of_cards cards =
    let r = relocated_of cards in
    record {
      start = module_start r nothing_moved cards;
      entries = entries_of r (cards_read cards);
      externs = r.externs;
      places = cells_from r nothing_moved (cards_before_end cards) ++ map (cell 0) r.whole.literals;
    }

-- a module, or the faulty cards with their faults
pub data ModuleMade : Type 0 where
  relocatable : Module → ModuleMade
  faulty : List (ℕ × ℕ) → ModuleMade

abbrev pub module_by : List (ℕ × ℕ) → List (List ℕ) → ModuleMade
module_by [] cards = relocatable (module_of_cards cards)
module_by (f ∷ fs) cards = faulty (f ∷ fs)

unfoldable pub module_made : List (List ℕ) → ModuleMade
module_made cards = module_by (module_faults cards) cards
