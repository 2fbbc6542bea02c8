-- The words of a card where its module comes to lie are its cells' words, linked.
use Rattle.std.proofs.Common.{◌≡◌, ℕ, zero, suc, ◌+◌, Bool, true, false, if◌then◌else◌, nat_lt, List, [], ◌∷◌, length, map, replicate, Option, Some, None, is_none, refl, sym, ap, ◌∙◌}
use Rattle.std.specs.Option.{option_map}
use Rattle.std.proofs.lemmas.List.{length-map}
use Rattle.opcode_table.specs.Table.{class_of, kind_of as op_kind}
use Rattle.opcode_table.specs.declared.op.Op.{Op}
use Rattle.fap_model.specs.Cards.{field_of, flag_of}
use Rattle.fap_model.specs.declared.types.Operation.{Operation}
use Rattle.fap_model.specs.declared.types.Operation.TheVariants.{Machine as machine, Pze as pze, Org as org, Bss as bss, Equ as equ, Dec as dec, Oct as oct, Bci as bci, End as end}
use Rattle.fap_model.specs.Terms.{decimal_word, octal_number, items_of, all_words}
use Rattle.fap_model.specs.Statements.{Field, words, text_words, field_for}
use Rattle.fap_model.specs.Places.{Known, max_place, or_zero, count_of, is_defined}
use Rattle.fap_model.specs.Decks.{Whole, is_end, machine_word, plain_word, given_words, words_by}
use Rattle.link_model.specs.declared.types.ModulePlace.{ModulePlace}
use Rattle.link_model.specs.Links.{raised, raised_by, linked_word}
use Rattle.link_model.specs.Weights.{with_externs, kind_of, kind_in}
use Rattle.link_model.specs.Moves.{Moved, early_kind, count_in, moved_size}
use Rattle.link_model.specs.ModuleCards.{Relocated, symbols_seen, weights_of, card_kind, cell, cells_by}
use Rattle.rule_laws.proofs.Values.{Setting, IsSound, names_here, weights_here}
use Rattle.rule_laws.proofs.Raises.{none_raised}
use Rattle.rule_laws.proofs.Shorts.{mapped}
use Rattle.rule_laws.proofs.Fields.{Twice}
use Rattle.rule_laws.proofs.Cards.{machine_field, machine_words, parts_short, plain_words}
use Rattle.rule_laws.proofs.Places.{Behind, moved_size_is, counts}
use Rattle.rule_laws.proofs.Steps.{IsGood, is_org, Counted, counted_decimals, counted_octals, counted_characters, early_words, near_end}

abbrev pub is_bss : Operation → Bool
is_bss bss = true
is_bss o = false

-- what all cards of a module tell, here and where it comes to lie
pub record Final (s : Setting) (r : Relocated) (there : Whole) : Type 0 where
  pub sound : IsSound s
  pub externs : s.externs ≡ r.externs
  pub weights : r.weights ≡ weights_here s
  pub twice : Twice s r.whole there

-- cells of kind 0 keep their words
zero_word : (b : ℕ) (entries : List (ℕ × ℕ)) (xs : List ℕ) (w : ℕ) → linked_word b entries xs (cell 0 w) ≡ w
zero_word b entries xs w = none_raised w

zero_all : (b : ℕ) (entries : List (ℕ × ℕ)) (xs : List ℕ) (ws : List ℕ) → map (linked_word b entries xs) (map (cell 0) ws) ≡ ws
zero_all b entries xs [] = refl
zero_all b entries xs (w ∷ ws) =
    ap (λ (x : ℕ). x ∷ map (linked_word b entries xs) (map (cell 0) ws)) (zero_word b entries xs w)
    ∙ ap (λ (l : List ℕ). w ∷ l) (zero_all b entries xs ws)

pub zero_cells : (b : ℕ) (entries : List (ℕ × ℕ)) (xs : List ℕ) (k : ℕ) (ws : List ℕ) → k ≡ 0 → map (linked_word b entries xs) (map (cell k) ws) ≡ ws
zero_cells b entries xs k ws e = ap (λ (n : ℕ). map (linked_word b entries xs) (map (cell n) ws)) e ∙ zero_all b entries xs ws

pub reserved : (b : ℕ) (entries : List (ℕ × ℕ)) (xs : List ℕ) (n : ℕ) → map (linked_word b entries xs) (replicate n (cell 0 0)) ≡ replicate n 0
reserved b entries xs zero = refl
reserved b entries xs (suc n) = ap (λ (l : List ℕ). 0 ∷ l) (reserved b entries xs n)

-- the words of a card that isn't a BSS
pub record Worded (s : Setting) (r : Relocated) (m : Moved) (there : Whole) (k : Known) (card : List ℕ) (o : Operation) : Type 0 where
  pub words : map (linked_word s.base s.entries r.externs) (cells_by r m (Some o) card) ≡ words_by there k (Some o) card
  pub size : length (cells_by r m (Some o) card) ≡ moved_size r.externs m (Some o) card

one_cell : (s : Setting) (r : Relocated) (k v w : ℕ) (o : Option ℕ) → s.externs ≡ r.externs → o ≡ Some k → raised v (raised_by s.base s.entries s.externs k) ≡ w
    → linked_word s.base s.entries r.externs (cell (or_zero o) v) ∷ [] ≡ w ∷ []
one_cell s r k v w o e is h =
    ap (λ (n : Option ℕ). linked_word s.base s.entries r.externs (cell (or_zero n) v) ∷ []) is
    ∙ ap (λ (xs : List ℕ). raised v (raised_by s.base s.entries xs k) ∷ []) (sym e)
    ∙ ap (λ (x : ℕ). x ∷ []) h

machine_worded : (s : Setting) (r : Relocated) (m : Moved) (before : List (List ℕ)) (there : Whole) (k : Known) (card : List ℕ) (o : Op) → Final s r there
    → k.place ≡ s.base + m.known.place → IsGood r m before card (machine o) → Worded s r m there k card (machine o)
machine_worded s r m before there k card o f at g =
    let shape = (g.sound).field_is in
    let defined : is_defined (names_here s) (g.sound).field ≡ true =
    ap (λ (l : List (ℕ × ℕ)). is_defined l (g.sound).field) (sym ((f.twice).names)) ∙ (g.sound).defined in
    let kind : kind_in (machine o) s.externs (weights_here s) (g.sound).field ≡ Some g.kind =
    ap (λ (xs : List ℕ). kind_in (machine o) xs (weights_here s) (g.sound).field) f.externs
    ∙ ap (λ (l : List (ℕ × ℕ)). kind_in (machine o) r.externs l (g.sound).field) (sym f.weights)
    ∙ ap (λ (x : Option Field). kind_of (machine o) r.externs r.weights x) (sym shape) ∙ g.kind_is in
    let here_there =
    machine_words s f.sound r.whole there f.twice m.known.place g.kind o (flag_of card) (g.sound).field
    (machine_field (class_of o) (op_kind o) (field_of card) card (g.sound).field shape) defined kind in
    let from : raised (machine_word r.whole m.known.place o (flag_of card) (field_for (machine o) card)) (raised_by s.base s.entries s.externs g.kind)
    ≡ machine_word there k.place o (flag_of card) (field_for (machine o) card) =
    ap (λ (x : Option Field). raised (machine_word r.whole m.known.place o (flag_of card) x) (raised_by s.base s.entries s.externs g.kind)) shape
    ∙ here_there
    ∙ sym (ap (λ (x : Option Field). machine_word there (s.base + m.known.place) o (flag_of card) x) shape)
    ∙ sym (ap (λ (q : ℕ). machine_word there q o (flag_of card) (field_for (machine o) card)) at) in
    record { words = one_cell s r g.kind _ _ (card_kind (machine o) r m card) f.externs g.kind_is from; size = refl }

plain_worded : (s : Setting) (r : Relocated) (m : Moved) (before : List (List ℕ)) (there : Whole) (k : Known) (card : List ℕ) → Final s r there
    → k.place ≡ s.base + m.known.place → IsGood r m before card pze → Worded s r m there k card pze
plain_worded s r m before there k card f at g =
    let shape = (g.sound).field_is in
    let defined : is_defined (names_here s) (g.sound).field ≡ true =
    ap (λ (l : List (ℕ × ℕ)). is_defined l (g.sound).field) (sym ((f.twice).names)) ∙ (g.sound).defined in
    let kind : kind_in pze s.externs (weights_here s) (g.sound).field ≡ Some g.kind =
    ap (λ (xs : List ℕ). kind_in pze xs (weights_here s) (g.sound).field) f.externs
    ∙ ap (λ (l : List (ℕ × ℕ)). kind_in pze r.externs l (g.sound).field) (sym f.weights)
    ∙ ap (λ (x : Option Field). kind_of pze r.externs r.weights x) (sym shape) ∙ g.kind_is in
    let here_there =
    plain_words s f.sound r.whole there f.twice m.known.place g.kind (g.sound).field (parts_short 3 (items_of (field_of card)) (g.sound).field shape) defined kind in
    let from : raised (plain_word r.whole m.known.place (field_for pze card)) (raised_by s.base s.entries s.externs g.kind)
    ≡ plain_word there k.place (field_for pze card) =
    ap (λ (x : Option Field). raised (plain_word r.whole m.known.place x) (raised_by s.base s.entries s.externs g.kind)) shape
    ∙ here_there
    ∙ sym (ap (λ (x : Option Field). plain_word there (s.base + m.known.place) x) shape)
    ∙ sym (ap (λ (q : ℕ). plain_word there q (field_for pze card)) at) in
    record { words = one_cell s r g.kind _ _ (card_kind pze r m card) f.externs g.kind_is from; size = refl }

-- data

data_count : (ws : Option (List ℕ)) (f : Option Field) (x : Field) → f ≡ option_map (λ us. words us) ws → f ≡ Some x → (us : List ℕ) × (f ≡ Some (words us))
data_count ws f x form is = let m = mapped (λ us. words us) ws x (sym form ∙ is) in (m.0, is ∙ ap (λ (y : Field). Some y) (sym m.2))

data_size : (r : Relocated) (m : Moved) (before : List (List ℕ)) (card : List ℕ) (o : Operation) (k : Known) (early : early_kind r.externs m o card ≡ Some 0) → IsGood r m before card o
    → Counted o m.known (symbols_seen m before) k (field_for o card) → moved_size r.externs m (Some o) card ≡ count_of o m.known (field_for o card)
data_size r m before card o k early g c =
    let counted : count_of o m.known (field_for o card) ≡ count_in r.externs m o card = counts r.externs m o card 0 early in
    moved_size_is r.externs m o card counted
    (near_end m.known.place (count_of o (symbols_seen m before) (field_for o card)) (count_of o m.known (field_for o card)) (count_in r.externs m o card) (g.sound).room c.as_seen counted)

-- how much an EQU takes
abbrev taken : Option ℕ → Bool → ℕ
taken o b = if b then (if is_none o then 0 else 0) else 0

-- a card of data
data_worded : (s : Setting) (r : Relocated) (m : Moved) (before : List (List ℕ)) (there : Whole) (k : Known) (card : List ℕ) (o : Operation) (ws : Option (List ℕ)) → Final s r there
    → IsGood r m before card o → field_for o card ≡ option_map (λ us. words us) ws
    → ((weights : List (ℕ × ℕ)) (us : List ℕ) → kind_of o r.externs weights (Some (words us)) ≡ Some 0)
    → Counted o m.known (symbols_seen m before) k (field_for o card)
    → ((us : List ℕ) → field_for o card ≡ Some (words us) → words_by r.whole m.known (Some o) card ≡ us)
    → ((us : List ℕ) → field_for o card ≡ Some (words us) → words_by there k (Some o) card ≡ us)
    → ((us : List ℕ) → field_for o card ≡ Some (words us) → count_of o m.known (field_for o card) ≡ length us)
    → cells_by r m (Some o) card ≡ map (cell (or_zero (card_kind o r m card))) (words_by r.whole m.known (Some o) card)
    → Worded s r m there k card o
data_worded s r m before there k card o ws f g form none c here_is there_is counted cells =
    let u = data_count ws (field_for o card) (g.sound).field form (g.sound).field_is in
    let zero_kind_is : or_zero (card_kind o r m card) ≡ 0 =
    ap or_zero (early_words r.externs _ o (field_for o card) ws (g.sound).field (none (weights_of o r m)) form (g.sound).field_is) in
    let early : early_kind r.externs m o card ≡ Some 0 =
    early_words r.externs (with_externs r.externs m.weights) o (field_for o card) ws (g.sound).field (none (with_externs r.externs m.weights)) form (g.sound).field_is in
    let all : cells_by r m (Some o) card ≡ map (cell (or_zero (card_kind o r m card))) u.0 =
    cells ∙ ap (λ (l : List ℕ). map (cell (or_zero (card_kind o r m card))) l) (here_is u.0 u.1) in
    record {
      words =
          ap (λ (l : List ModulePlace). map (linked_word s.base s.entries r.externs) l) all
          ∙ zero_cells s.base s.entries r.externs (or_zero (card_kind o r m card)) u.0 zero_kind_is ∙ sym (there_is u.0 u.1);
      size =
          ap (λ (l : List ModulePlace). length l) all ∙ length-map u.0 (cell (or_zero (card_kind o r m card)))
          ∙ sym (counted u.0 u.1) ∙ sym (data_size r m before card o k early g c);
    }

pub worded : (s : Setting) (r : Relocated) (m : Moved) (before : List (List ℕ)) (there : Whole) (k : Known) (card : List ℕ) (o : Operation) → Final s r there
    → Behind s.base m k → is_org o ≡ false → is_end (Some o) ≡ false → is_bss o ≡ false → IsGood r m before card o → Worded s r m there k card o
worded s r m before there k card org f h other last apart g = absurd cc
worded s r m before there k card end f h other last apart g = absurd cc
worded s r m before there k card bss f h other last apart g = absurd cc
worded s r m before there k card (machine o) f h other last apart g = machine_worded s r m before there k card o f h.place g
worded s r m before there k card pze f h other last apart g = plain_worded s r m before there k card f h.place g
worded s r m before there k card dec f h other last apart g =
    data_worded s r m before there k card dec (all_words decimal_word (items_of (field_of card))) f g refl (λ weights us. refl)
    (counted_decimals m.known (symbols_seen m before) k (field_for dec card)) (λ us e. ap given_words e) (λ us e. ap given_words e)
    (λ us e. ap (λ (x : Option Field). count_of dec m.known x) e) refl
worded s r m before there k card oct f h other last apart g =
    data_worded s r m before there k card oct (all_words (octal_number 12) (items_of (field_of card))) f g refl (λ weights us. refl)
    (counted_octals m.known (symbols_seen m before) k (field_for oct card)) (λ us e. ap given_words e) (λ us e. ap given_words e)
    (λ us e. ap (λ (x : Option Field). count_of oct m.known x) e) refl
worded s r m before there k card bci f h other last apart g =
    data_worded s r m before there k card bci (text_words card) f g refl (λ weights us. refl)
    (counted_characters m.known (symbols_seen m before) k (field_for bci card)) (λ us e. ap given_words e) (λ us e. ap given_words e)
    (λ us e. ap (λ (x : Option Field). count_of bci m.known x) e) refl
worded s r m before there k card equ f h other last apart g =
    record {
      words = refl;
      size = sym (nothing_taken (early_kind r.externs m equ card) (nat_lt (m.known.place + count_in r.externs m equ card) max_place));
    }
  where
    nothing_taken : (o : Option ℕ) (b : Bool) → taken o b ≡ 0
    nothing_taken None true = refl
    nothing_taken (Some x) true = refl
    nothing_taken None false = refl
    nothing_taken (Some x) false = refl
