-- claim: what the cards of a module before a card come to.
use Rattle.std.specs.Prelude.{ℕ, ◌+◌, ◌%◌, ◌^◌, Bool, true, false, ◌&&◌, nat_eq, nat_lt, if◌then◌else◌, List, [], ◌∷◌, ◌++◌, Option, Some, None, is_none}
use Rattle.fap_model.specs.Cards.{is_comment, symbol_of}
use Rattle.fap_model.specs.declared.types.Operation.{Operation}
use Rattle.fap_model.specs.declared.types.Operation.TheVariants.{Machine as machine, Pze as pze, Org as org, Equ as equ}
use Rattle.fap_model.specs.Statements.{field_for}
use Rattle.fap_model.specs.Places.{Known, nothing_known, max_place, value_in, or_zero, count_of, said, fault_with, with_symbol}
use Rattle.fap_model.specs.Decks.{operation_in}
use Rattle.link_model.specs.Weights.{with_externs, kind_of}

-- places and symbols, how much each symbol weighs, and which symbols are EQU's
pub record Moved : Type 0 where
  pub known : Known
  pub weights : List (ℕ × ℕ)
  pub equs : List ℕ

abbrev pub nothing_moved : Moved
nothing_moved = record { known = nothing_known; weights = []; equs = [] }

-- a module has no ORG
abbrev pub without_org : Option Operation → Option Operation
without_org None = None
without_org (Some org) = None
without_org (Some o) = Some o

abbrev pub module_operation : List ℕ → Option Operation
module_operation card = without_org (operation_in card)

-- the kind of a card's field where it may use the symbols of earlier cards alone
abbrev pub early_kind : List ℕ → Moved → Operation → List ℕ → Option ℕ
early_kind externs m o card = kind_of o externs (with_externs externs m.weights) (field_for o card)

-- the least fault of an EQU; the last place of a module is 32766
abbrev pub equ_fault : List ℕ → Moved → List ℕ → ℕ
equ_fault externs m card =
    fault_with (with_externs externs m.known.symbols) 1 (is_none (early_kind externs m equ card)) m.known equ card (field_for equ card)

-- how many words a card takes or reserves; none where the field gives the number and is at fault, or they would pass the
-- last place
abbrev pub count_in : List ℕ → Moved → Operation → List ℕ → ℕ
count_in externs m o card = if is_none (early_kind externs m o card) then 0 else count_of o m.known (field_for o card)

abbrev pub moved_size : List ℕ → Moved → Option Operation → List ℕ → ℕ
moved_size externs m None card = 0
moved_size externs m (Some (machine o)) card = 1
moved_size externs m (Some pze) card = 1
moved_size externs m (Some o) card =
    if nat_lt (m.known.place + count_in externs m o card) max_place then count_in externs m o card else 0

-- the value of a card's symbol, and its weight
abbrev pub worth : List ℕ → Moved → Option Operation → List ℕ → ℕ × ℕ
worth externs m (Some equ) card =
    if nat_eq (equ_fault externs m card) 0 then (said m.known (field_for equ card), or_zero (early_kind externs m equ card)) else (0, 0)
worth externs m o card = (m.known.place % 2 ^ 15, 1)

-- a table with a symbol more, if no earlier card has it
abbrev pub table_with : List (ℕ × ℕ) → Option ℕ → ℕ → List (ℕ × ℕ)
table_with table name v = with_symbol (record { place = 0; symbols = table }) name v

abbrev pub is_equ_in : Option Operation → Bool
is_equ_in (Some equ) = true
is_equ_in o = false

abbrev pub equs_with : Moved → Option Operation → Option ℕ → List ℕ
equs_with m o None = m.equs
equs_with m o (Some name) = if is_equ_in o && is_none (value_in m.known.symbols name) then m.equs ++ name ∷ [] else m.equs

-- one card more
abbrev pub moved_with : List ℕ → Moved → Option Operation → List ℕ → Moved
moved_with externs m o card =
    record {
      known =
          record {
            place = m.known.place + moved_size externs m o card;
            symbols = with_symbol m.known (symbol_of card) (worth externs m o card).0;
          };
      weights = table_with m.weights (symbol_of card) (worth externs m o card).1;
      equs = equs_with m o (symbol_of card);
    }

abbrev pub moved_behind : List ℕ → Moved → List ℕ → Moved
moved_behind externs m card = if is_comment card then m else moved_with externs m (module_operation card) card

abbrev pub moved_after : List ℕ → Moved → List (List ℕ) → Moved
moved_after externs m [] = m
moved_after externs m (card ∷ cards) = moved_after externs (moved_behind externs m card) cards
