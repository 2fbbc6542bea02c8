-- The rows of a listing, card by card.
use Rattle.std.proofs.Common.{◌≡◌, ℕ, ◌+◌, ◌<◌, ◌≤◌, Bool, true, false, nat_lt, List, [], ◌∷◌, ◌++◌, length, map, get_or, drop, Option, None, refl, sym, ap, ◌∙◌, arith, append_assoc}
use Rattle.std.proofs.lemmas.Bool.Decides.{nat_tests}
use Rattle.fap_read.specs.declared.card.Card.{Card}
use Rattle.fap_model.specs.declared.types.CardRow.{CardRow}
use Rattle.fap_model.specs.declared.types.FaultCause.{FaultCause}
use Rattle.fap_model.specs.declared.types.Listed.{Listed}
use Rattle.fap_model.specs.Places.{Known, nothing_known, known_behind}
use Rattle.fap_model.specs.Decks.{Whole, cards_read, has_end, whole_of, fault_of, start_from}
use Rattle.fap_model.specs.Causes.{fault_number, cause_of}
use Rattle.fap_model.specs.Listed.{defined_on, used_on, mentions_from, row_of, rows_from, symbol_value, listed}
use Rattle.fap_model.proofs.Listings.{cause_is_fault}
use Rattle.fap_assemble.specs.Steps.{texts}
use Rattle.fap_assemble.specs.Answers.{end_index}
use Rattle.fap_assemble.proofs.Passes.{texts_at}
use Rattle.fap_assemble.proofs.Reading.{has_here, has_none}

-- a card that has no cause of a fault has none
pub sound_card : (whole : Whole) (k : Known) (card : List ℕ) → cause_of whole k card ≡ None → fault_of whole k card ≡ 0
sound_card whole k card h = sym (cause_is_fault whole k card) ∙ ap (λ (cause : Option FaultCause). fault_number cause) h

-- a row more
pub row_added : (w : Whole) (cards : List Card) (i : ℕ) (c : Card) (text : List ℕ) (k next : Known) (row : CardRow) (rows more all : List CardRow) → i < length cards → c ≡ get_or cards i c
    → text ≡ c.text → rows ++ rows_from w k (texts (drop i cards)) ≡ all → row ≡ row_of w k text → more ≡ rows ++ row ∷ [] → next ≡ known_behind k text
    → more ++ rows_from w next (texts (drop (i + 1) cards)) ≡ all
row_added w cards i c text k next row rows more all lt is e was r m s =
    let first : texts (drop i cards) ≡ text ∷ texts (drop (i + 1) cards) = texts_at cards i c lt is ∙ ap (λ (x : List ℕ). x ∷ texts (drop (i + 1) cards)) (sym e) in
    rw (m, r, s)
    (append_assoc rows (row_of w k text ∷ []) (rows_from w (known_behind k text) (texts (drop (i + 1) cards)))
    ∙ ap (λ (cs : List (List ℕ)). rows ++ rows_from w k cs) (sym first) ∙ was)

-- whether an END was met
pub has_end_is : (cards : List Card) (index : ℕ) → index ≡ end_index cards → nat_lt index (length cards) ≡ has_end (texts cards)
has_end_is cards index e = by (nat_lt index (length cards)) refl
  where
    by : (b : Bool) → nat_lt index (length cards) ≡ b → b ≡ has_end (texts cards)
    by true h =
        let within : end_index cards < length cards = grind (arith, nat_tests, e, h) in
        sym (has_here cards within)
    by false h =
        let past : length cards ≤ end_index cards = grind (arith, nat_tests, e, h) in
        sym (has_none cards past)

-- all together
pub all_listed : (cards : List Card) (w : Whole) (l : Listed) → w ≡ whole_of (texts cards) → l.rows ≡ rows_from w nothing_known (cards_read (texts cards))
    → l.symbols ≡ map symbol_value w.names → l.definitions ≡ mentions_from defined_on 1 (cards_read (texts cards)) → l.uses ≡ mentions_from used_on 1 (cards_read (texts cards))
    → l.literals ≡ w.literals → l.end_place ≡ w.end_place → l.blocks ≡ w.blocks → l.start ≡ start_from w nothing_known (texts cards) → l.has_end ≡ has_end (texts cards)
    → l ≡ listed (texts cards)
unfolding listed
all_listed cards w l is rows symbols definitions uses literals place blocks start ends = λ j. record {
  rows = (rows ∙ ap (λ (v : Whole). rows_from v nothing_known (cards_read (texts cards))) is) j;
  symbols = (symbols ∙ ap (λ (v : Whole). map symbol_value v.names) is) j;
  definitions = definitions j;
  uses = uses j;
  literals = (literals ∙ ap (λ (v : Whole). v.literals) is) j;
  end_place = (place ∙ ap (λ (v : Whole). v.end_place) is) j;
  blocks = (blocks ∙ ap (λ (v : Whole). v.blocks) is) j;
  start = (start ∙ ap (λ (v : Whole). start_from v nothing_known (texts cards)) is) j;
  has_end = ends j;
}
