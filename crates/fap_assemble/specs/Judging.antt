-- proof: the faults of a module's cards, as the code holds what stood before them.
use Rattle.std.specs.Prelude.{ℕ, ◌+◌, Bool, not, ◌&&◌, ◌||◌, nat_lt, nat_le, if◌then◌else◌, List, [], ◌∷◌, ◌++◌, length, take, count_by, Option, Some, None, is_none, bytes_eq, codes}
use Rattle.std.specs.List.{list_all}
use Rattle.fap_model.specs.Cards.{is_comment, is_bad, operation_of, field_of}
use Rattle.fap_model.specs.declared.types.Operation.{Operation}
use Rattle.fap_model.specs.declared.types.Operation.TheVariants.{End as end}
use Rattle.fap_model.specs.Statements.{operation_named, field_for}
use Rattle.fap_model.specs.Places.{Known, max_place, value_in, fault_with}
use Rattle.fap_model.specs.Decks.{start_is_outside}
use Rattle.link_model.specs.Weights.{with_externs, is_among}
use Rattle.link_model.specs.Moves.{Moved, without_org}
use Rattle.link_model.specs.ModuleCards.{Relocated, is_marked, field_symbol, has_operation, named_by, card_kind, names_of}
use Rattle.fap_assemble.specs.Fields.{known_at}
use Rattle.fap_assemble.specs.declared.past.Past.{Past}
use Rattle.fap_assemble.specs.declared.relocated.Relocated.{Relocated as Held}
use Rattle.fap_assemble.specs.declared.relocated.Spot.{Spot}

-- what stood before a card
abbrev pub past_of : List (List ℕ) → Past
past_of before = record {
  only_comments = list_all is_comment before;
  entries = named_by (codes "ENTRY") before;
  entry_cards = count_by (has_operation (codes "ENTRY")) before;
  externs = named_by (codes "EXTERN") before;
  extern_cards = count_by (has_operation (codes "EXTERN")) before;
}

abbrev pub one_if : Bool → ℕ
one_if b = if b then 1 else 0

abbrev pub past_with : Past → List ℕ → Past
past_with p card = record {
  only_comments = p.only_comments && is_comment card;
  entries = p.entries ++ named_by (codes "ENTRY") (card ∷ []);
  entry_cards = p.entry_cards + one_if (has_operation (codes "ENTRY") card);
  externs = p.externs ++ named_by (codes "EXTERN") (card ∷ []);
  extern_cards = p.extern_cards + one_if (has_operation (codes "EXTERN") card);
}

abbrev pub relocated_in : Held → Relocated
relocated_in r = record {
  whole = record {
    names = with_externs r.externs r.whole.symbols;
    literals = r.whole.literals;
    end_place = r.whole.end_place;
    blocks = r.whole.blocks;
  };
  weights = with_externs r.externs r.weights;
  equs = r.equs;
  externs = r.externs;
}

abbrev pub moved_at : Held → Spot → Moved
moved_at r s = record { known = known_at r.whole.symbols s.visible s.place; weights = take s.weighed r.weights; equs = [] }

abbrev pub is_over_by : ℕ → ℕ → Bool
is_over_by place cards = nat_le max_place place || nat_le 32766 cards

abbrev pub rel_fault_by : Bool → ℕ → List ℕ → ℕ
rel_fault_by only place card =
    if not only then 1 else (if is_marked card || nat_lt 0 (length (field_of card)) then 2 else (if nat_le max_place place then 5 else 0))

abbrev pub entry_fault_of_by : Relocated → Past → ℕ → Option ℕ → ℕ
entry_fault_of_by r p place None = 2
entry_fault_of_by r p place (Some name) =
    if is_among r.externs name || is_among r.equs name then 2
    else (if is_none (value_in r.whole.names name) then 3
    else (if is_among p.entries name then 4
    else (if is_over_by place p.entry_cards then 5 else 0)))

abbrev pub entry_fault_by : Relocated → Past → ℕ → List ℕ → ℕ
entry_fault_by r p place card = if is_marked card then 2 else entry_fault_of_by r p place (field_symbol card)

abbrev pub seen_by : Past → Known → Known
seen_by p k = record { place = k.place; symbols = k.symbols ++ with_externs p.externs [] }

abbrev pub extern_fault_of_by : Past → Known → Option ℕ → ℕ
extern_fault_of_by p k None = 2
extern_fault_of_by p k (Some name) =
    if not (is_none (value_in (seen_by p k).symbols name)) then 4 else (if is_over_by k.place p.extern_cards then 5 else 0)

abbrev pub extern_fault_by : Past → Known → List ℕ → ℕ
extern_fault_by p k card = if is_marked card then 2 else extern_fault_of_by p k (field_symbol card)

abbrev pub plain_fault_by : Option Operation → Relocated → Past → Moved → List ℕ → ℕ
plain_fault_by None r p m card = 1
plain_fault_by (Some end) r p m card =
    fault_with r.whole.names (length r.whole.literals + 1)
    (is_none (card_kind end r m card) || start_is_outside r.whole m.known (field_for end card)) (seen_by p m.known) end card (field_for end card)
plain_fault_by (Some o) r p m card =
    fault_with (names_of o r m) 1 (is_none (card_kind o r m card)) (seen_by p m.known) o card (field_for o card)

abbrev pub module_fault_by : Relocated → Past → Moved → List ℕ → ℕ
module_fault_by r p m card =
    if is_comment card then (if is_bad card then 2 else 0)
    else (if bytes_eq (operation_of card) (codes "REL") then rel_fault_by p.only_comments m.known.place card
    else (if bytes_eq (operation_of card) (codes "ENTRY") then entry_fault_by r p m.known.place card
    else (if bytes_eq (operation_of card) (codes "EXTERN") then extern_fault_by p m.known card
    else plain_fault_by (without_org (operation_named (operation_of card))) r p m card)))

-- the fault of a card with an operation that isn't END, by what its field comes to
abbrev pub word_fault_by : Operation → Relocated → Past → Moved → List ℕ → ℕ
word_fault_by o r p m card = fault_with (names_of o r m) 1 (is_none (card_kind o r m card)) (seen_by p m.known) o card (field_for o card)
