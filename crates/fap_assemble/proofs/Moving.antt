-- What a card of a module does to what is known.
use Rattle.std.proofs.Common.{◌≡◌, ℕ, ◌+◌, ◌<◌, ◌%◌, ◌^◌, Bool, true, false, List, [], ◌∷◌, ◌++◌, length, get_or, take, drop, take_all, append_assoc, Option, Some, None, is_none, refl, sym, ap, ◌∙◌, arith, true≢false, if◌then◌else◌}
use Rattle.std.specs.Option.{option_map}
use Rattle.fap_model.specs.Cards.{is_comment, symbol_of}
use Rattle.fap_model.specs.declared.types.Operation.{Operation}
use Rattle.fap_model.specs.declared.types.Operation.TheVariants.{Machine as machine, Pze as pze, Org as org, Bss as bss, Equ as equ, Dec as dec, Oct as oct, Bci as bci, End as end}
use Rattle.fap_model.specs.Statements as says
use Rattle.fap_model.specs.Places.{Known, with_symbol}
use Rattle.fap_model.specs.Decks.{operation_in, literal_by, with_literal, literals_with}
use Rattle.link_model.specs.ModuleCards.{has_operation, field_symbol, with_named, named_by}
use Rattle.fap_read.specs.declared.card.Card.{Card}
use Rattle.fap_assemble.specs.Steps.{texts}
use Rattle.fap_assemble.proofs.Passes.{texts_at}
use Rattle.link_model.specs.Weights.{with_externs}
use Rattle.link_model.specs.Moves.{Moved, module_operation, early_kind, equ_fault, count_in, moved_size, worth, is_equ_in, equs_with, table_with, moved_with, moved_behind, moved_after}
use Rattle.fap_assemble.specs.Fields.{said, known_at, fault, count}
use Rattle.fap_assemble.specs.declared.field.Said.{Said}
use Rattle.fap_assemble.specs.Passes.{symbol_entered}
use Rattle.fap_assemble.specs.Moving.{known_moves, moved_by}
use Rattle.fap_assemble.proofs.Places.{wrong_is, defined_is, count_is}

pub equ_fault_is : (externs : List ℕ) (m : Moved) (card : List ℕ)
    → fault 1 (is_none (early_kind externs m equ card)) m.known equ card (option_map (said (with_externs externs m.known.symbols) m.known.place) (says.field_for equ card))
    ≡ equ_fault externs m card
equ_fault_is externs m card =
    let names : List (ℕ × ℕ) = with_externs externs m.known.symbols in
    rw (wrong_is names m.known (says.field_for equ card), defined_is names m.known.place (says.field_for equ card)) refl

pub count_none : (externs : List ℕ) (m : Moved) (o : Operation) (card : List ℕ) → is_none (early_kind externs m o card) ≡ true → 0 ≡ count_in externs m o card
count_none externs m o card h = rw h refl

pub count_some : (externs : List ℕ) (m : Moved) (o : Operation) (card : List ℕ) → is_none (early_kind externs m o card) ≡ false
    → count o (option_map (said m.known.symbols m.known.place) (says.field_for o card)) ≡ count_in externs m o card
count_some externs m o card h = rw h (count_is m.known.symbols m.known o (says.field_for o card) (λ e. refl))

pub count_read : (externs : List ℕ) (m : Moved) (o : Operation) (card : List ℕ) (s : Option Said) → is_none (early_kind externs m o card) ≡ false
    → s ≡ option_map (said m.known.symbols m.known.place) (says.field_for o card) → count o s ≡ count_in externs m o card
count_read externs m o card s h e = ap (count o) e ∙ count_some externs m o card h

pub equ_read : (externs : List ℕ) (m : Moved) (card : List ℕ) (s : Option Said) (wrong : Bool) → s ≡ option_map (said (with_externs externs m.known.symbols) m.known.place) (says.field_for equ card)
    → wrong ≡ is_none (early_kind externs m equ card) → fault 1 wrong m.known equ card s ≡ equ_fault externs m card
equ_read externs m card s wrong a b = rw (a, b) (equ_fault_is externs m card)

-- a symbol's worth

pub equ_here : (o : Option Operation) → is_equ_in o ≡ true → o ≡ Some equ
equ_here None h = absurd (true≢false (sym h))
equ_here (Some (machine o)) h = absurd (true≢false (sym h))
equ_here (Some pze) h = absurd (true≢false (sym h))
equ_here (Some org) h = absurd (true≢false (sym h))
equ_here (Some bss) h = absurd (true≢false (sym h))
equ_here (Some equ) h = refl
equ_here (Some dec) h = absurd (true≢false (sym h))
equ_here (Some oct) h = absurd (true≢false (sym h))
equ_here (Some bci) h = absurd (true≢false (sym h))
equ_here (Some end) h = absurd (true≢false (sym h))

pub plain_worth : (externs : List ℕ) (m : Moved) (o : Option Operation) (card : List ℕ) → is_equ_in o ≡ false → (m.known.place % 2 ^ 15, 1) ≡ worth externs m o card
plain_worth externs m None card h = refl
plain_worth externs m (Some (machine o)) card h = refl
plain_worth externs m (Some pze) card h = refl
plain_worth externs m (Some org) card h = refl
plain_worth externs m (Some bss) card h = refl
plain_worth externs m (Some equ) card h = absurd (true≢false h)
plain_worth externs m (Some dec) card h = refl
plain_worth externs m (Some oct) card h = refl
plain_worth externs m (Some bci) card h = refl
plain_worth externs m (Some end) card h = refl

-- neither a size nor a worth depends on the EQUs

abbrev pub without_equs : Moved → Moved
without_equs m = record { known = m.known; weights = m.weights; equs = [] }

size_same : (externs : List ℕ) (m : Moved) (o : Option Operation) (card : List ℕ) → moved_size externs (without_equs m) o card ≡ moved_size externs m o card
size_same externs m None card = refl
size_same externs m (Some (machine o)) card = refl
size_same externs m (Some pze) card = refl
size_same externs m (Some org) card = refl
size_same externs m (Some bss) card = refl
size_same externs m (Some equ) card = refl
size_same externs m (Some dec) card = refl
size_same externs m (Some oct) card = refl
size_same externs m (Some bci) card = refl
size_same externs m (Some end) card = refl

worth_same : (externs : List ℕ) (m : Moved) (o : Option Operation) (card : List ℕ) → worth externs (without_equs m) o card ≡ worth externs m o card
worth_same externs m None card = refl
worth_same externs m (Some (machine o)) card = refl
worth_same externs m (Some pze) card = refl
worth_same externs m (Some org) card = refl
worth_same externs m (Some bss) card = refl
worth_same externs m (Some equ) card = refl
worth_same externs m (Some dec) card = refl
worth_same externs m (Some oct) card = refl
worth_same externs m (Some bci) card = refl
worth_same externs m (Some end) card = refl

-- the tables that a card finds, by how many of them it sees
pub size_at : (externs : List ℕ) (m : Moved) (symbols weights : List (ℕ × ℕ)) (visible weighed place : ℕ) (o : Option Operation) (card : List ℕ)
    → take visible symbols ≡ m.known.symbols → take weighed weights ≡ m.weights → place ≡ m.known.place
    → moved_size externs (record { known = known_at symbols visible place; weights = take weighed weights; equs = [] }) o card ≡ moved_size externs m o card
size_at externs m symbols weights visible weighed place o card s w p = rw (s, w, p) (size_same externs m o card)

pub worth_at : (externs : List ℕ) (m : Moved) (symbols weights : List (ℕ × ℕ)) (visible weighed place : ℕ) (o : Option Operation) (card : List ℕ)
    → take visible symbols ≡ m.known.symbols → take weighed weights ≡ m.weights → place ≡ m.known.place
    → worth externs (record { known = known_at symbols visible place; weights = take weighed weights; equs = [] }) o card ≡ worth externs m o card
worth_at externs m symbols weights visible weighed place o card s w p = rw (s, w, p) (worth_same externs m o card)

pub all_of : (n : ℕ) (table : List (ℕ × ℕ)) → n ≡ length table → take n table ≡ table
all_of n table h = take_all n table (omega (arith, h))

-- a card's symbol

pub symbols_entered : (k : Known) (name : Option ℕ) (v : ℕ) → symbol_entered k.symbols name v ≡ with_symbol k name v
symbols_entered k None v = refl
symbols_entered k (Some name) v = refl

pub weights_entered : (table : List (ℕ × ℕ)) (name : Option ℕ) (v : ℕ) → symbol_entered table name v ≡ table_with table name v
weights_entered table None v = refl
weights_entered table (Some name) v = refl

pub equs_entered : (m : Moved) (symbols : List (ℕ × ℕ)) (o : Option Operation) (name : Option ℕ) → symbols ≡ m.known.symbols
    → equs_with (known_moves symbols m.equs) o name ≡ equs_with m o name
equs_entered m symbols o None s = refl
equs_entered m symbols o (Some name) s = rw s refl

pub taken_is : (externs : List ℕ) (m : Moved) (card : List ℕ) (size : ℕ) (w : ℕ × ℕ) → is_comment card ≡ false → size ≡ moved_size externs m (module_operation card) card
    → w ≡ worth externs m (module_operation card) card → moved_by m (module_operation card) (symbol_of card) size w ≡ moved_behind externs m card
taken_is externs m card size w c s e = rw (s, e) (sym (ap (λ (b : Bool). if b then m else moved_with externs m (module_operation card) card) c))

-- the place behind a card

pub place_behind : (externs : List ℕ) (m : Moved) (card : List ℕ) (size : ℕ) → is_comment card ≡ false → size ≡ moved_size externs m (module_operation card) card
    → m.known.place + size ≡ (moved_behind externs m card).known.place
place_behind externs m card size c s =
    ap (λ (n : ℕ). m.known.place + n) s ∙ sym (ap (λ (b : Bool). (if b then m else moved_with externs m (module_operation card) card).known.place) c)

pub place_kept : (externs : List ℕ) (m : Moved) (card : List ℕ) (size : ℕ) → is_comment card ≡ true → size ≡ 0
    → m.known.place + size ≡ (moved_behind externs m card).known.place
place_kept externs m card size c s = rw (c, s) (omega arith)

-- cards one by one

pub rest_moved : (externs : List ℕ) (cards : List Card) (i : ℕ) (c : Card) (text : List ℕ) (t next all : Moved) → i < length cards → c ≡ get_or cards i c → text ≡ c.text
    → moved_after externs t (texts (drop i cards)) ≡ all → next ≡ moved_behind externs t text → moved_after externs next (texts (drop (i + 1) cards)) ≡ all
rest_moved externs cards i c text t next all lt is e h n =
    let first : texts (drop i cards) ≡ text ∷ texts (drop (i + 1) cards) = texts_at cards i c lt is ∙ ap (λ (x : List ℕ). x ∷ texts (drop (i + 1) cards)) (sym e) in
    rw n (sym (ap (λ (cs : List (List ℕ)). moved_after externs t cs) first) ∙ h)

pub rest_literals : (cards : List Card) (i : ℕ) (c : Card) (text : List ℕ) (seen next all : List ℕ) → i < length cards → c ≡ get_or cards i c → text ≡ c.text
    → literals_with seen (texts (drop i cards)) ≡ all → next ≡ with_literal seen (literal_by (operation_in text) text) → literals_with next (texts (drop (i + 1) cards)) ≡ all
rest_literals cards i c text seen next all lt is e h n =
    let first : texts (drop i cards) ≡ text ∷ texts (drop (i + 1) cards) = texts_at cards i c lt is ∙ ap (λ (x : List ℕ). x ∷ texts (drop (i + 1) cards)) (sym e) in
    rw n (sym (ap (λ (cs : List (List ℕ)). literals_with seen cs) first) ∙ h)

-- names one by one

pub named_first : (operation card : List ℕ) (cards : List (List ℕ)) → named_by operation (card ∷ cards) ≡ named_by operation (card ∷ []) ++ named_by operation cards
named_first operation card cards = by (has_operation operation card) (field_symbol card)
  where
    by : (b : Bool) (name : Option ℕ) → (if b then with_named name (named_by operation cards) else named_by operation cards)
        ≡ (if b then with_named name [] else []) ++ named_by operation cards
    by true None = refl
    by true (Some name) = refl
    by false name = refl

pub rest_named : (operation : List ℕ) (cards : List Card) (i : ℕ) (c : Card) (text names next all : List ℕ) → i < length cards → c ≡ get_or cards i c → text ≡ c.text
    → names ++ named_by operation (texts (drop i cards)) ≡ all → next ≡ names ++ named_by operation (text ∷ [])
    → next ++ named_by operation (texts (drop (i + 1) cards)) ≡ all
rest_named operation cards i c text names next all lt is e h n =
    let first : texts (drop i cards) ≡ text ∷ texts (drop (i + 1) cards) = texts_at cards i c lt is ∙ ap (λ (x : List ℕ). x ∷ texts (drop (i + 1) cards)) (sym e) in
    let before : names ++ (named_by operation (text ∷ []) ++ named_by operation (texts (drop (i + 1) cards))) ≡ all
    = sym (ap (λ (l : List ℕ). names ++ l) (ap (named_by operation) first ∙ named_first operation text (texts (drop (i + 1) cards)))) ∙ h in
    rw n (append_assoc names (named_by operation (text ∷ [])) (named_by operation (texts (drop (i + 1) cards))) ∙ before)

pub place_same : (externs : List ℕ) (m : Moved) (card : List ℕ) → (moved_behind externs (without_equs m) card).known.place ≡ (moved_behind externs m card).known.place
place_same externs m card = by (is_comment card)
  where
    by : (b : Bool) → (if b then without_equs m else moved_with externs (without_equs m) (module_operation card) card).known.place
        ≡ (if b then m else moved_with externs m (module_operation card) card).known.place
    by true = refl
    by false = ap (λ (n : ℕ). m.known.place + n) (size_same externs m (module_operation card) card)

-- a comment does nothing

pub comment_kept : (externs : List ℕ) (m : Moved) (card : List ℕ) → is_comment card ≡ true → m ≡ moved_behind externs m card
comment_kept externs m card c = rw c refl

pub comment_literal : (literals : List ℕ) (card : List ℕ) → is_comment card ≡ true → literals ≡ with_literal literals (literal_by (operation_in card) card)
comment_literal literals card c = rw c refl

-- a card taken

pub taken_parts : (m : Moved) (symbols weights : List (ℕ × ℕ)) (equs : List ℕ) (o : Option Operation) (name : Option ℕ) (size value weight : ℕ) → symbols ≡ symbol_entered m.known.symbols name value
    → weights ≡ symbol_entered m.weights name weight → equs ≡ equs_with (known_moves (take (length m.known.symbols) m.known.symbols) m.equs) o name
    → record { known = record { place = m.known.place + size; symbols = symbols }; weights = weights; equs = equs } ≡ moved_by m o name size (value, weight)
taken_parts m symbols weights equs o name size value weight a b d =
    let s = a ∙ symbols_entered m.known name value in
    let w = b ∙ weights_entered m.weights name weight in
    let e = d ∙ equs_entered m (take (length m.known.symbols) m.known.symbols) o name (all_of (length m.known.symbols) m.known.symbols refl) in
    rw (s, w, e) refl
