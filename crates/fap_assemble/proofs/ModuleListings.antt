-- The rows of a module's listing, card by card.
use Rattle.std.proofs.Common.{◌≡◌, ℕ, zero, suc, ◌+◌, ◌<◌, ◌≤◌, Bool, true, false, List, [], ◌∷◌, ◌++◌, length, map, get_or, take, drop, Option, Some, None, refl, sym, ap, ◌∙◌, arith, append_assoc, true≢false}
use Rattle.fap_read.specs.declared.card.Card.{Card}
use Rattle.fap_model.specs.declared.types.Operation.{Operation}
use Rattle.fap_model.specs.declared.types.Operation.TheVariants.{Machine as machine, Pze as pze, Org as org, Bss as bss, Equ as equ, Dec as dec, Oct as oct, Bci as bci, End as end}
use Rattle.fap_model.specs.Decks.{cards_read, has_end, is_end, operation_in}
use Rattle.fap_model.specs.Listed.{defined_on, used_on, mentions_from, symbol_value}
use Rattle.link_model.specs.declared.types.ModuleRow.{ModuleRow}
use Rattle.link_model.specs.declared.types.ListedModule.{ListedModule}
use Rattle.link_model.specs.Moves.{Moved, nothing_moved, module_operation, moved_behind, moved_after}
use Rattle.link_model.specs.ModuleCards.{Relocated, relocated_of, module_fault, entries_of, module_start}
use Rattle.link_model.specs.Listed.{places_reserved, kind_placed, words_placed, module_row, module_rows_from, listed_module}
use Rattle.fap_assemble.specs.Steps.{texts}
use Rattle.fap_assemble.specs.Answers.{end_index}
use Rattle.fap_assemble.specs.declared.relocated.Relocated.{Relocated as Held}
use Rattle.fap_assemble.specs.declared.relocated.Spot.{Spot}
use Rattle.fap_assemble.specs.declared.past.Past.{Past}
use Rattle.fap_assemble.specs.Judging.{relocated_in, moved_at, past_of, module_fault_by}
use Rattle.fap_assemble.specs.ModuleFollows.{Stands, moved_by_cards}
use Rattle.fap_assemble.specs.ModuleListings.{row_with, module_row_by}
use Rattle.fap_assemble.proofs.Moving.{without_equs}
use Rattle.fap_assemble.proofs.Passes.{texts_at}
use Rattle.fap_assemble.proofs.Reading.{has_none}
use Rattle.fap_assemble.proofs.ModuleFollows.{seen_moved, fault_here}

-- a card at fault reserves nothing
pub none_reserved : (r : Relocated) (m : Moved) (fault : ℕ) (o : Option Operation) (card : List ℕ) → 0 < fault → 0 ≡ places_reserved r m fault o card
none_reserved r m zero o card h = absurd (omega (arith, h))
none_reserved r m (suc f) o card h = refl

-- a row doesn't depend on the EQUs
row_equs : (r : Relocated) (m : Moved) (fault : ℕ) (o : Option Operation) (card : List ℕ) → row_with r (without_equs m) fault o card ≡ row_with r m fault o card
row_equs r m zero None card = refl
row_equs r m zero (Some (machine o)) card = refl
row_equs r m zero (Some pze) card = refl
row_equs r m zero (Some org) card = refl
row_equs r m zero (Some bss) card = refl
row_equs r m zero (Some equ) card = refl
row_equs r m zero (Some dec) card = refl
row_equs r m zero (Some oct) card = refl
row_equs r m zero (Some bci) card = refl
row_equs r m zero (Some end) card = refl
row_equs r m (suc f) None card = refl
row_equs r m (suc f) (Some o) card = refl

-- a row by its parts
pub row_is : (r : Relocated) (p : Past) (m : Moved) (card : List ℕ) (o : Option Operation) (fault reserved kind : ℕ) (words : List ℕ) → o ≡ module_operation card
    → fault ≡ module_fault_by r p m card → reserved ≡ places_reserved r m fault o card → kind ≡ kind_placed r m o card → words ≡ words_placed r m fault o card
    → record { place = m.known.place; fault = fault; reserved = reserved; kind = kind; words = words } ≡ module_row_by r p m card
row_is r p m card o fault reserved kind words e f a k w = rw (a, k, w, f, e) refl

pub row_here : (r : Held) (s : Spot) (cards : List Card) (i : ℕ) (c : Card) (text : List ℕ) (p : Past) (row : ModuleRow) → i < length cards → c ≡ get_or cards i c → text ≡ c.text
    → Stands r s (moved_by_cards r.externs (texts (take i cards))) (texts (drop i cards)) → p ≡ past_of (texts (take i cards))
    → row ≡ module_row_by (relocated_in r) p (moved_at r s) text
    → row ≡ module_row (relocated_in r) (moved_by_cards r.externs (texts (take i cards))) (texts (take i cards)) text
row_here r s cards i c text p row lt is e h b f =
    f
    ∙ ap (λ (n : ℕ). row_with (relocated_in r) (moved_at r s) n (module_operation text) text) (fault_here r s cards i c text p (module_fault_by (relocated_in r) p (moved_at r s) text) lt is e h b refl)
    ∙ ap (λ (n : Moved). row_with (relocated_in r) n (module_fault (relocated_in r) (moved_by_cards r.externs (texts (take i cards))) (texts (take i cards)) text) (module_operation text) text)
    (seen_moved r s (moved_by_cards r.externs (texts (take i cards))) (texts (drop i cards)) h)
    ∙ row_equs (relocated_in r) (moved_by_cards r.externs (texts (take i cards)))
    (module_fault (relocated_in r) (moved_by_cards r.externs (texts (take i cards))) (texts (take i cards)) text) (module_operation text) text

-- a row more
pub row_added : (r : Relocated) (cards : List Card) (i : ℕ) (c : Card) (text : List ℕ) (m next : Moved) (before after : List (List ℕ)) (row : ModuleRow) (rows more all : List ModuleRow) → i < length cards
    → c ≡ get_or cards i c → text ≡ c.text → rows ++ module_rows_from r m before (texts (drop i cards)) ≡ all → row ≡ module_row r m before text → more ≡ rows ++ row ∷ []
    → next ≡ moved_behind r.externs m text → after ≡ before ++ text ∷ [] → more ++ module_rows_from r next after (texts (drop (i + 1) cards)) ≡ all
row_added r cards i c text m next before after row rows more all lt is e was f g s b =
    let first : texts (drop i cards) ≡ text ∷ texts (drop (i + 1) cards) = texts_at cards i c lt is ∙ ap (λ (x : List ℕ). x ∷ texts (drop (i + 1) cards)) (sym e) in
    rw (g, f, s, b)
    (append_assoc rows (module_row r m before text ∷ []) (module_rows_from r (moved_behind r.externs m text) (before ++ text ∷ []) (texts (drop (i + 1) cards)))
    ∙ ap (λ (cs : List (List ℕ)). rows ++ module_rows_from r m before cs) (sym first) ∙ was)

-- without an END no start is said

no_start_from : (r : Relocated) (m : Moved) (cards : List Card) → has_end (texts cards) ≡ false → module_start r m (texts cards) ≡ 0
no_start_from r m [] h = refl
no_start_from r m (c ∷ cards) h = start_case (is_end (operation_in c.text)) refl (no_start_from r (moved_behind r.externs m c.text) cards)
  where
    start_case : (b : Bool) → is_end (operation_in c.text) ≡ b
        → (has_end (texts cards) ≡ false → module_start r (moved_behind r.externs m c.text) (texts cards) ≡ 0) → module_start r m (texts (c ∷ cards)) ≡ 0
    start_case true e ih = absurd (true≢false (rw e at h))
    start_case false e ih = rw e (ih (rw e at h))

pub no_start : (r : Relocated) (cards : List Card) (index : ℕ) → index ≡ end_index cards → length cards ≤ index → 0 ≡ module_start r nothing_moved (texts cards)
no_start r cards index e h = sym (no_start_from r nothing_moved cards (has_none cards (omega (arith, e, h))))

-- all together

pub known_read : (r : Held) (cards read : List (List ℕ)) → (moved_after r.externs nothing_moved read).known.symbols ≡ r.whole.symbols → read ≡ cards_read cards
    → (moved_after r.externs nothing_moved (cards_read cards)).known.symbols ≡ r.whole.symbols
known_read r cards read h e = sym (ap (λ (cs : List (List ℕ)). (moved_after r.externs nothing_moved cs).known.symbols) e) ∙ h

pub all_listed : (cards : List Card) (r : Held) (l : ListedModule) → relocated_in r ≡ relocated_of (texts cards)
    → (moved_after r.externs nothing_moved (cards_read (texts cards))).known.symbols ≡ r.whole.symbols
    → l.rows ≡ module_rows_from (relocated_in r) nothing_moved [] (cards_read (texts cards)) → l.symbols ≡ map symbol_value r.whole.symbols
    → l.definitions ≡ mentions_from defined_on 1 (cards_read (texts cards)) → l.uses ≡ mentions_from used_on 1 (cards_read (texts cards))
    → l.entries ≡ entries_of (relocated_in r) (cards_read (texts cards)) → l.externs ≡ r.externs → l.literals ≡ r.whole.literals → l.end_place ≡ r.whole.end_place
    → l.start ≡ module_start (relocated_in r) nothing_moved (texts cards) → l.has_end ≡ has_end (texts cards) → l ≡ listed_module (texts cards)
unfolding listed_module
all_listed cards r l is known rows symbols definitions uses entries externs literals place start ends = λ j. record {
  rows = (rows ∙ ap (λ (v : Relocated). module_rows_from v nothing_moved [] (cards_read (texts cards))) is) j;
  symbols =
      (symbols ∙ ap (λ (s : List (ℕ × ℕ)). map symbol_value s) (sym known)
      ∙ ap (λ (v : Relocated). map symbol_value (moved_after v.externs nothing_moved (cards_read (texts cards))).known.symbols) is) j;
  definitions = definitions j;
  uses = uses j;
  entries = (entries ∙ ap (λ (v : Relocated). entries_of v (cards_read (texts cards))) is) j;
  externs = (externs ∙ ap (λ (v : Relocated). v.externs) is) j;
  literals = (literals ∙ ap (λ (v : Relocated). v.whole.literals) is) j;
  end_place = (place ∙ ap (λ (v : Relocated). v.whole.end_place) is) j;
  start = (start ∙ ap (λ (v : Relocated). module_start v nothing_moved (texts cards)) is) j;
  has_end = ends j;
}
