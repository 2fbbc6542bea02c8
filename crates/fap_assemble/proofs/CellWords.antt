-- The places of a module's card are the definition's, and a card without a fault has a right field.
use Rattle.std.proofs.Common.{◌≡◌, ◌≢◌, ℕ, ◌+◌, Bool, true, false, not, ◌||◌, List, [], ◌∷◌, length, map, Option, Some, None, is_none, refl, sym, ap, ◌∙◌, subst, arith, nat_lt, if◌then◌else◌, bytes_eq, codes}
use Rattle.std.proofs.lemmas.Slice.Eq.{bytes_eq-Decides}
use Rattle.std.specs.Option.{option_map}
use Rattle.fap_model.specs.Cards.{is_comment, is_bad, flag_of, operation_of, symbol_of}
use Rattle.fap_model.specs.declared.types.Operation.{Operation}
use Rattle.fap_model.specs.declared.types.Operation.TheVariants.{Machine as machine, Pze as pze, Org as org, Bss as bss, Equ as equ, Dec as dec, Oct as oct, Bci as bci, End as end}
use Rattle.opcode_table.specs.declared.op.Op.{Op}
use Rattle.fap_model.specs.Statements as says
use Rattle.fap_model.specs.Places.{Known, max_place, count_of, field_is_wrong, field_is_defined, fault_with, symbol_is_known, or_zero}
use Rattle.fap_model.specs.Decks.{Whole, operation_in, start_is_outside}
use Rattle.fap_model.specs.Decks as decks
use Rattle.link_model.specs.Moves.{Moved, without_org, module_operation}
use Rattle.link_model.specs.ModuleCards.{Relocated, card_kind, names_of, cells_by, cell}
use Rattle.fap_assemble.specs.declared.field.Said.{Said}
use Rattle.fap_assemble.specs.declared.field.Said.TheVariants.{Placed, Half, Nothing, Value, Words}
use Rattle.fap_assemble.specs.declared.field.Address.TheVariants.{Plain, Literal}
use Rattle.fap_assemble.specs.Fields.{said, is_wrong, is_misshapen, machine_word, plain_word}
use Rattle.fap_assemble.specs.CardWords.{words_said}
use Rattle.fap_assemble.specs.declared.past.Past.{Past}
use Rattle.fap_assemble.specs.Judging.{seen_by, rel_fault_by, entry_fault_by, extern_fault_by, plain_fault_by, module_fault_by}
use Rattle.fap_assemble.specs.CellWords.{IsSound, word_cells}
use Rattle.fap_assemble.proofs.Places.{wrong_is}
use Rattle.fap_assemble.proofs.CardWords.{said_words, least_zero, left_false}

same_text : (xs ys : List ℕ) → bytes_eq xs ys ≡ true → xs ≡ ys
same_text xs ys h = grind (arith, bytes_eq-Decides)

none_some : (o : Operation) → None ≡ Some o → ⊥
none_some o h = cc

no_operation : (card name : List ℕ) (o : Operation) → bytes_eq (operation_of card) name ≡ true → says.operation_named name ≡ None
    → without_org (says.operation_named (operation_of card)) ≡ Some o → ⊥
no_operation card name o e none h =
    none_some o (sym (ap (λ (x : Option Operation). without_org x) (ap (λ (t : List ℕ). says.operation_named t) (same_text (operation_of card) name e) ∙ none)) ∙ h)

-- a card with an operation has its operation's fault
pub plain_of : (r : Relocated) (p : Past) (m : Moved) (card : List ℕ) (o : Operation) → module_operation card ≡ Some o → module_fault_by r p m card ≡ 0 → plain_fault_by (Some o) r p m card ≡ 0
plain_of r p m card o e h = by_comment (is_comment card) e h
  where
    by_extern : (b : Bool) → bytes_eq (operation_of card) (codes "EXTERN") ≡ b → without_org (says.operation_named (operation_of card)) ≡ Some o
        → (if b then extern_fault_by p m.known card else plain_fault_by (without_org (says.operation_named (operation_of card))) r p m card) ≡ 0 → plain_fault_by (Some o) r p m card ≡ 0
    by_extern true t e h = absurd (no_operation card (codes "EXTERN") o t refl e)
    by_extern false t e h = subst (λ (x : Option Operation). plain_fault_by x r p m card ≡ 0) e h

    by_entry : (b : Bool) → bytes_eq (operation_of card) (codes "ENTRY") ≡ b → without_org (says.operation_named (operation_of card)) ≡ Some o
        → (if b then entry_fault_by r p m.known.place card
        else (if bytes_eq (operation_of card) (codes "EXTERN") then extern_fault_by p m.known card
        else plain_fault_by (without_org (says.operation_named (operation_of card))) r p m card)) ≡ 0 → plain_fault_by (Some o) r p m card ≡ 0
    by_entry true t e h = absurd (no_operation card (codes "ENTRY") o t refl e)
    by_entry false t e h = by_extern (bytes_eq (operation_of card) (codes "EXTERN")) refl e h

    by_rel : (b : Bool) → bytes_eq (operation_of card) (codes "REL") ≡ b → without_org (says.operation_named (operation_of card)) ≡ Some o
        → (if b then rel_fault_by p.only_comments m.known.place card
        else (if bytes_eq (operation_of card) (codes "ENTRY") then entry_fault_by r p m.known.place card
        else (if bytes_eq (operation_of card) (codes "EXTERN") then extern_fault_by p m.known card
        else plain_fault_by (without_org (says.operation_named (operation_of card))) r p m card))) ≡ 0 → plain_fault_by (Some o) r p m card ≡ 0
    by_rel true t e h = absurd (no_operation card (codes "REL") o t refl e)
    by_rel false t e h = by_entry (bytes_eq (operation_of card) (codes "ENTRY")) refl e h

    by_comment : (b : Bool) → without_org (if b then None else says.operation_named (operation_of card)) ≡ Some o
        → (if b then (if is_bad card then 2 else 0)
        else (if bytes_eq (operation_of card) (codes "REL") then rel_fault_by p.only_comments m.known.place card
        else (if bytes_eq (operation_of card) (codes "ENTRY") then entry_fault_by r p m.known.place card
        else (if bytes_eq (operation_of card) (codes "EXTERN") then extern_fault_by p m.known card
        else plain_fault_by (without_org (says.operation_named (operation_of card))) r p m card)))) ≡ 0 → plain_fault_by (Some o) r p m card ≡ 0
    by_comment true e h = absurd (none_some o e)
    by_comment false e h = by_rel (bytes_eq (operation_of card) (codes "REL")) refl e h

-- and so a right field
right_with : (names : List (ℕ × ℕ)) (more : ℕ) (wrong : Bool) (k : Known) (o : Operation) (card : List ℕ) → fault_with names more wrong k o card (says.field_for o card) ≡ 0
    → is_wrong (option_map (said names k.place) (says.field_for o card)) ≡ false
right_with names more wrong k o card h =
    let parts = least_zero (is_misshapen o card) (field_is_wrong names k (says.field_for o card) || wrong) (not (field_is_defined names (says.field_for o card))) (symbol_is_known k (symbol_of card))
    (nat_lt max_place (k.place + count_of o k (says.field_for o card) + more)) h in
    wrong_is names k (says.field_for o card) ∙ left_false (field_is_wrong names k (says.field_for o card)) wrong parts.0

right_by : (r : Relocated) (p : Past) (m : Moved) (o : Operation) (card : List ℕ) → plain_fault_by (Some o) r p m card ≡ 0
    → is_wrong (option_map (said (names_of o r m) m.known.place) (says.field_for o card)) ≡ false
right_by r p m (machine o) card h = right_with (names_of (machine o) r m) 1 (is_none (card_kind (machine o) r m card)) (seen_by p m.known) (machine o) card h
right_by r p m pze card h = right_with (names_of pze r m) 1 (is_none (card_kind pze r m card)) (seen_by p m.known) pze card h
right_by r p m org card h = right_with (names_of org r m) 1 (is_none (card_kind org r m card)) (seen_by p m.known) org card h
right_by r p m bss card h = right_with (names_of bss r m) 1 (is_none (card_kind bss r m card)) (seen_by p m.known) bss card h
right_by r p m equ card h = right_with (names_of equ r m) 1 (is_none (card_kind equ r m card)) (seen_by p m.known) equ card h
right_by r p m dec card h = right_with (names_of dec r m) 1 (is_none (card_kind dec r m card)) (seen_by p m.known) dec card h
right_by r p m oct card h = right_with (names_of oct r m) 1 (is_none (card_kind oct r m card)) (seen_by p m.known) oct card h
right_by r p m bci card h = right_with (names_of bci r m) 1 (is_none (card_kind bci r m card)) (seen_by p m.known) bci card h
right_by r p m end card h =
    right_with r.whole.names (length r.whole.literals + 1) (is_none (card_kind end r m card) || start_is_outside r.whole m.known (says.field_for end card)) (seen_by p m.known) end card h

pub right_cell : (r : Relocated) (m : Moved) (o : Operation) (card : List ℕ) (s : Option Said) → IsSound r m card → module_operation card ≡ Some o
    → s ≡ option_map (said (names_of o r m) m.known.place) (says.field_for o card) → is_wrong s ≡ false
right_cell r m o card s sound e h = ap is_wrong h ∙ right_by r sound.0 m o card (plain_of r sound.0 m card o e sound.1)

-- words don't depend on the symbols' names

machine_same : (a b : Whole) (o : Op) (flag : Bool) (s : Option Said) → a.end_place ≡ b.end_place → a.literals ≡ b.literals → machine_word a o flag s ≡ machine_word b o flag s
machine_same a b o flag None e l = refl
machine_same a b o flag (Some (Placed (Plain v) tag decrement)) e l = refl
machine_same a b o flag (Some (Placed (Literal w) tag decrement)) e l = rw (e, l) refl
machine_same a b o flag (Some (Half n)) e l = refl
machine_same a b o flag (Some Nothing) e l = refl
machine_same a b o flag (Some (Value v)) e l = refl
machine_same a b o flag (Some (Words ws)) e l = refl

plain_word_same : (a b : Whole) (s : Option Said) → a.end_place ≡ b.end_place → a.literals ≡ b.literals → plain_word a s ≡ plain_word b s
plain_word_same a b None e l = refl
plain_word_same a b (Some (Placed (Plain v) tag decrement)) e l = refl
plain_word_same a b (Some (Placed (Literal w) tag decrement)) e l = rw (e, l) refl
plain_word_same a b (Some (Half n)) e l = refl
plain_word_same a b (Some Nothing) e l = refl
plain_word_same a b (Some (Value v)) e l = refl
plain_word_same a b (Some (Words ws)) e l = refl

said_same : (a b : Whole) (o : Operation) (flag : Bool) (s : Option Said) → a.end_place ≡ b.end_place → a.literals ≡ b.literals → words_said a o flag s ≡ words_said b o flag s
said_same a b (machine o) flag s e l = ap (λ (w : ℕ). w ∷ []) (machine_same a b o flag s e l)
said_same a b pze flag s e l = ap (λ (w : ℕ). w ∷ []) (plain_word_same a b s e l)
said_same a b org flag s e l = refl
said_same a b bss flag s e l = refl
said_same a b equ flag s e l = refl
said_same a b dec flag s e l = refl
said_same a b oct flag s e l = refl
said_same a b bci flag s e l = refl
said_same a b end flag s e l = refl

words_named : (r : Relocated) (m : Moved) (o : Operation) (card : List ℕ)
    → words_said r.whole o (flag_of card) (option_map (said (names_of o r m) m.known.place) (says.field_for o card)) ≡ decks.words_by r.whole m.known (Some o) card
words_named r m (machine o) card = said_words r.whole m.known (machine o) card
words_named r m pze card = said_words r.whole m.known pze card
words_named r m org card = refl
words_named r m bss card = refl
words_named r m equ card = refl
words_named r m dec card = said_words r.whole m.known dec card
words_named r m oct card = said_words r.whole m.known oct card
words_named r m bci card = said_words r.whole m.known bci card
words_named r m end card = refl

pub words_read : (r : Relocated) (m : Moved) (a : Whole) (o : Operation) (card : List ℕ) (flag : Bool) (s : Option Said) → a.end_place ≡ r.whole.end_place → a.literals ≡ r.whole.literals
    → flag ≡ flag_of card → s ≡ option_map (said (names_of o r m) m.known.place) (says.field_for o card)
    → words_said a o flag s ≡ decks.words_by r.whole m.known (Some o) card
words_read r m a o card flag s p l f h =
    said_same a r.whole o flag s p l ∙ ap (λ (b : Bool). words_said r.whole o b s) f ∙ ap (words_said r.whole o (flag_of card)) h ∙ words_named r m o card

pub cells_read : (r : Relocated) (m : Moved) (a : Whole) (o : Operation) (card : List ℕ) (flag : Bool) (s : Option Said) (kind : ℕ) → a.end_place ≡ r.whole.end_place → a.literals ≡ r.whole.literals
    → flag ≡ flag_of card → s ≡ option_map (said (names_of o r m) m.known.place) (says.field_for o card) → kind ≡ or_zero (card_kind o r m card)
    → map (cell kind) (words_said a o flag s) ≡ word_cells r m o card
cells_read r m a o card flag s kind p l f h k =
    rw k (ap (λ (ws : List ℕ). map (cell (or_zero (card_kind o r m card))) ws) (words_read r m a o card flag s p l f h))

pub cells_plain : (r : Relocated) (m : Moved) (o : Operation) (card : List ℕ) → o ≢ bss → word_cells r m o card ≡ cells_by r m (Some o) card
cells_plain r m (machine o) card h = refl
cells_plain r m pze card h = refl
cells_plain r m org card h = refl
cells_plain r m bss card h = absurd (h refl)
cells_plain r m equ card h = refl
cells_plain r m dec card h = refl
cells_plain r m oct card h = refl
cells_plain r m bci card h = refl
cells_plain r m end card h = refl

cells_equs : (r : Relocated) (m : Moved) (equs : List ℕ) (o : Option Operation) (card : List ℕ) → cells_by r (record { known = m.known; weights = m.weights; equs = equs }) o card ≡ cells_by r m o card
cells_equs r m equs None card = refl
cells_equs r m equs (Some (machine o)) card = refl
cells_equs r m equs (Some pze) card = refl
cells_equs r m equs (Some org) card = refl
cells_equs r m equs (Some bss) card = refl
cells_equs r m equs (Some equ) card = refl
cells_equs r m equs (Some dec) card = refl
cells_equs r m equs (Some oct) card = refl
cells_equs r m equs (Some bci) card = refl
cells_equs r m equs (Some end) card = refl

pub cells_same : (r : Relocated) (m n : Moved) (o : Option Operation) (card : List ℕ) → n.known ≡ m.known → n.weights ≡ m.weights → cells_by r n o card ≡ cells_by r m o card
cells_same r m n o card k w =
    ap (λ (x : Known). cells_by r (record { known = x; weights = n.weights; equs = n.equs }) o card) k
    ∙ ap (λ (x : List (ℕ × ℕ)). cells_by r (record { known = m.known; weights = x; equs = n.equs }) o card) w ∙ cells_equs r m n.equs o card
