-- One card more: its place, its size and its symbol where the module comes to lie.
use Rattle.std.proofs.Common.{◌≡◌, ℕ, zero, suc, ◌+◌, ◌%◌, ◌^◌, ◌<◌, ◌≤◌, Bool, true, false, not, ◌||◌, if◌then◌else◌, nat_eq, nat_lt, List, [], ◌∷◌, ◌++◌, Option, Some, None, is_none, refl, sym, ap, ◌∙◌, subst, arith, eq-eqb, codes}
use Rattle.std.specs.Option.{option_map, option_and_then}
use Rattle.std.proofs.lemmas.Bool.Decides.{nat_tests}
use Rattle.fap_model.specs.Cards.{symbol_of, field_of}
use Rattle.fap_model.specs.declared.types.Term.{Term}
use Rattle.fap_model.specs.declared.types.Term.TheVariants.{Named, Number, Here}
use Rattle.fap_model.specs.Terms.{Signed, expression}
use Rattle.fap_model.specs.declared.types.Operation.{Operation}
use Rattle.fap_model.specs.declared.types.Operation.TheVariants.{Org as org, Bss as bss, Equ as equ, Dec as dec, Oct as oct, Bci as bci}
use Rattle.fap_model.specs.Statements.{Field, placed, half, nothing, value, words, field_for}
use Rattle.fap_model.specs.Places.{Known, max_place, value_in, term_value, with_term, value_from, value_of, or_zero, count_of, size_of, said, is_defined, field_is_wrong, field_is_defined, symbol_is_known, fault_with, early_fault, symbol_value, next_place, known_with}
use Rattle.link_model.specs.Weights.{with_externs, is_light, weight_of, kind_of}
use Rattle.link_model.specs.Moves.{Moved, early_kind, equ_fault, count_in, moved_size, worth, moved_with}
use Rattle.link_model.specs.ModuleCards.{Relocated, symbols_seen, names_of, weights_of, card_kind, named_by}
use Rattle.rule_laws.proofs.Sums.{moved_to}
use Rattle.rule_laws.proofs.Tables.{raised_table}
use Rattle.rule_laws.proofs.Values.{Setting, IsSound, names_here, weights_here, AreShort}
use Rattle.rule_laws.proofs.Shorts.{mapped, expression_short}
use Rattle.rule_laws.proofs.Fields.{has_value, none_at}
use Rattle.rule_laws.proofs.Tests.{IsSoundCard, sound_card, is_misshapen, passed}
use Rattle.rule_laws.proofs.Places.{Behind, Symbolled, symbolled, front_none, size_is, moved_size_is, counts, Light, light}

-- a card of a module without a fault
pub record IsGood (r : Relocated) (m : Moved) (before : List (List ℕ)) (card : List ℕ) (o : Operation) : Type 0 where
  pub sound : IsSoundCard (names_of o r m) 1 (is_none (card_kind o r m card)) (symbols_seen m before) o card (field_for o card)
  pub kind : ℕ
  pub kind_is : card_kind o r m card ≡ Some kind

kind_there : (o : Option ℕ) → is_none o ≡ false → (k : ℕ) × (o ≡ Some k)
kind_there None h = absurd cc
kind_there (Some k) h = (k, refl)

pub good_from : (r : Relocated) (m : Moved) (before : List (List ℕ)) (card : List ℕ) (o : Operation)
    → fault_with (names_of o r m) 1 (is_none (card_kind o r m card)) (symbols_seen m before) o card (field_for o card) ≡ 0 → IsGood r m before card o
good_from r m before card o h =
    let s = sound_card (names_of o r m) 1 (is_none (card_kind o r m card)) (symbols_seen m before) o card (field_for o card) h in
    let k = kind_there (card_kind o r m card) s.right in
    record { sound = s; kind = k.0; kind_is = k.1 }

-- the setting of what is known so far
abbrev pub so_far : ℕ → List (ℕ × ℕ) → List ℕ → Moved → Setting
so_far b entries xs m = record { base = b; entries = entries; externs = xs; symbols = m.known.symbols; weights = m.weights }

-- more names leave a value
name_front : (a c : List (ℕ × ℕ)) (name v : ℕ) → value_in a name ≡ Some v → value_in (a ++ c) name ≡ Some v
name_front [] c name v h = absurd cc
name_front (x ∷ a) c name v h = by_test (nat_eq name x.0) refl (λ rest. name_front a c name v rest)
  where
    by_test : (t : Bool) → nat_eq name x.0 ≡ t → (value_in a name ≡ Some v → value_in (a ++ c) name ≡ Some v) → value_in ((x ∷ a) ++ c) name ≡ Some v
    by_test true e ih = let is : Some x.1 ≡ Some v = rw e at h in rw e is
    by_test false e ih = let rest : value_in a name ≡ Some v = rw e at h in rw e (ih rest)

more_names : (a c : List (ℕ × ℕ)) (p : ℕ) (ts : List Signed) (sum v : ℕ) → value_from a p sum ts ≡ Some v → value_from (a ++ c) p sum ts ≡ Some v
more_names a c p [] sum v h = h
more_names a c p (t ∷ ts) sum v h = by_value (term_value a p t.1) refl (λ w rest. more_names a c p ts (with_term sum t.0 w) v rest)
  where
    term_front : (x : Term) (w : ℕ) → term_value a p x ≡ Some w → term_value (a ++ c) p x ≡ Some w
    term_front (Named name) w e = name_front a c name w e
    term_front (Number n) w e = e
    term_front Here w e = e

    by_value : (o : Option ℕ) → term_value a p t.1 ≡ o
        → ((w : ℕ) → value_from a p (with_term sum t.0 w) ts ≡ Some v → value_from (a ++ c) p (with_term sum t.0 w) ts ≡ Some v)
        → value_from (a ++ c) p sum (t ∷ ts) ≡ Some v
    by_value None e ih =
        let no : None ≡ Some v = sym (ap (λ (o : Option ℕ). option_and_then (λ x. value_from a p (with_term sum t.0 x) ts) o) e) ∙ h in absurd cc
    by_value (Some w) e ih =
        let rest : value_from a p (with_term sum t.0 w) ts ≡ Some v =
        sym (ap (λ (o : Option ℕ). option_and_then (λ x. value_from a p (with_term sum t.0 x) ts) o) e) ∙ h in
        ap (λ (o : Option ℕ). option_and_then (λ x. value_from (a ++ c) p (with_term sum t.0 x) ts) o) (term_front t.1 w e)
        ∙ ih w rest

-- how many words a field takes, here, as seen, and there
pub record Counted (o : Operation) (here seen there : Known) (f : Option Field) : Type 0 where
  pub as_seen : count_of o seen f ≡ count_of o here f
  pub as_there : count_of o there f ≡ count_of o here f

pub counted_decimals : (a b c : Known) (f : Option Field) → Counted dec a b c f
counted_decimals a b c None = record { as_seen = refl; as_there = refl }
counted_decimals a b c (Some (placed x t d)) = record { as_seen = refl; as_there = refl }
counted_decimals a b c (Some (half n)) = record { as_seen = refl; as_there = refl }
counted_decimals a b c (Some nothing) = record { as_seen = refl; as_there = refl }
counted_decimals a b c (Some (value ts)) = record { as_seen = refl; as_there = refl }
counted_decimals a b c (Some (words ws)) = record { as_seen = refl; as_there = refl }

pub counted_octals : (a b c : Known) (f : Option Field) → Counted oct a b c f
counted_octals a b c None = record { as_seen = refl; as_there = refl }
counted_octals a b c (Some (placed x t d)) = record { as_seen = refl; as_there = refl }
counted_octals a b c (Some (half n)) = record { as_seen = refl; as_there = refl }
counted_octals a b c (Some nothing) = record { as_seen = refl; as_there = refl }
counted_octals a b c (Some (value ts)) = record { as_seen = refl; as_there = refl }
counted_octals a b c (Some (words ws)) = record { as_seen = refl; as_there = refl }

pub counted_characters : (a b c : Known) (f : Option Field) → Counted bci a b c f
counted_characters a b c None = record { as_seen = refl; as_there = refl }
counted_characters a b c (Some (placed x t d)) = record { as_seen = refl; as_there = refl }
counted_characters a b c (Some (half n)) = record { as_seen = refl; as_there = refl }
counted_characters a b c (Some nothing) = record { as_seen = refl; as_there = refl }
counted_characters a b c (Some (value ts)) = record { as_seen = refl; as_there = refl }
counted_characters a b c (Some (words ws)) = record { as_seen = refl; as_there = refl }

-- a field that is one expression

one_value_field : (card : List ℕ) (f : Field) → option_map (λ ts. value ts) (expression (field_of card)) ≡ Some f
    → (ts : List Signed) × (value ts ≡ f) × AreShort ts
one_value_field card f h =
    let m = mapped (λ ts. value ts) (expression (field_of card)) f h in (m.0, m.2, expression_short (field_of card) m.0 m.1)

pub record OneValue (most b : ℕ) (entries : List (ℕ × ℕ)) (xs : List ℕ) (m : Moved) (card : List ℕ) (o : Operation) : Type 0 where
  pub terms : List Signed
  pub result : ℕ
  pub field_is : field_for o card ≡ Some (value terms)
  pub light : Light most (so_far b entries xs m) m.known.place terms result

one_value : (most b : ℕ) (entries : List (ℕ × ℕ)) (r : Relocated) (m : Moved) (before : List (List ℕ)) (card : List ℕ) (o : Operation)
    → IsSound (so_far b entries r.externs m) → IsGood r m before card o
    → field_for o card ≡ option_map (λ ts. value ts) (expression (field_of card))
    → names_of o r m ≡ with_externs r.externs m.known.symbols
    → ((ts : List Signed) → kind_of o r.externs (weights_of o r m) (Some (value ts))
    ≡ (if is_light most r.externs (with_externs r.externs m.weights) ts then Some (weight_of (with_externs r.externs m.weights) ts) else None))
    → OneValue most b entries r.externs m card o
one_value most b entries r m before card o h g form names kind =
    let s : Setting = so_far b entries r.externs m in
    let field_at : field_for o card ≡ Some (g.sound).field = (g.sound).field_is in
    let f = one_value_field card (g.sound).field (sym form ∙ field_at) in
    let is : field_for o card ≡ Some (value f.0) = field_at ∙ ap (λ (x : Field). Some x) (sym f.1) in
    let weighed : (if is_light most r.externs (with_externs r.externs m.weights) f.0 then Some (weight_of (with_externs r.externs m.weights) f.0) else None) ≡ Some g.kind =
    sym (kind f.0) ∙ ap (λ (x : Option Field). kind_of o r.externs (weights_of o r m) x) (sym is) ∙ g.kind_is in
    let defined : is_defined (names_here s) (value f.0) ≡ true =
    ap (λ (l : List (ℕ × ℕ)). is_defined l (value f.0)) (sym names) ∙ ap (λ (x : Field). is_defined (names_of o r m) x) f.1 ∙ (g.sound).defined in
    let v = has_value (names_here s) m.known.place f.0 defined in
    record {
      terms = f.0;
      result = v.0;
      field_is = is;
      light = light most s h m.known.place f.0 v.0 f.2 (tested (weight_of (with_externs r.externs m.weights) f.0) (is_light most r.externs (with_externs r.externs m.weights) f.0) weighed) v.1;
    }
  where
    tested : (w : ℕ) (t : Bool) → (if t then Some w else None) ≡ Some g.kind → t ≡ true
    tested w true e = refl
    tested w false e = absurd cc

pub bss_value : (b : ℕ) (entries : List (ℕ × ℕ)) (r : Relocated) (m : Moved) (before : List (List ℕ)) (card : List ℕ)
    → IsSound (so_far b entries r.externs m) → IsGood r m before card bss → OneValue 0 b entries r.externs m card bss
bss_value b entries r m before card h g = one_value 0 b entries r m before card bss h g refl refl (λ ts. refl)

pub equ_value : (b : ℕ) (entries : List (ℕ × ℕ)) (r : Relocated) (m : Moved) (before : List (List ℕ)) (card : List ℕ)
    → IsSound (so_far b entries r.externs m) → IsGood r m before card equ → OneValue 1 b entries r.externs m card equ
equ_value b entries r m before card h g = one_value 1 b entries r m before card equ h g refl refl (λ ts. refl)

weightless : (b v w : ℕ) → v < 2 ^ 15 → w ≤ 0 → moved_to b v w 0 ≡ v
weightless b v zero h e = omega (arith, h)
weightless b v (suc w) h e = absurd (omega (arith, e))

pub counted_bss : (b : ℕ) (entries : List (ℕ × ℕ)) (xs : List ℕ) (m : Moved) (before : List (List ℕ)) (card : List ℕ) (k : Known) → Behind b m k
    → (one : OneValue 0 b entries xs m card bss) → one.result < 2 ^ 15 → Counted bss m.known (symbols_seen m before) k (field_for bss card)
counted_bss b entries xs m before card k h one small =
    let l = one.light in
    let here : count_of bss m.known (field_for bss card) ≡ one.result =
    ap (λ (x : Option Field). count_of bss m.known x) one.field_is ∙ ap or_zero l.here in
    let as_seen : count_of bss (symbols_seen m before) (field_for bss card) ≡ one.result =
    ap (λ (x : Option Field). count_of bss (symbols_seen m before) x) one.field_is
    ∙ ap or_zero (more_names m.known.symbols (with_externs (named_by (codes "EXTERN") before) []) m.known.place one.terms 0 one.result l.here) in
    let as_there : count_of bss k (field_for bss card) ≡ one.result =
    ap (λ (x : Option Field). count_of bss k x) one.field_is
    ∙ ap (λ (n : List (ℕ × ℕ)). or_zero (value_of n k.place one.terms)) h.symbols
    ∙ ap (λ (n : ℕ). or_zero (value_of (raised_table b m.known.symbols m.weights) n one.terms)) h.place
    ∙ ap or_zero l.there ∙ weightless b one.result _ small l.weight in
    record { as_seen = as_seen ∙ sym here; as_there = as_there ∙ sym here }

-- what a card's symbol is worth, here and there

pub record Worth (b : ℕ) (xs : List ℕ) (m : Moved) (k : Known) (card : List ℕ) (o : Operation) : Type 0 where
  pub small : (worth xs m (Some o) card).0 < 2 ^ 15
  pub light : (worth xs m (Some o) card).1 ≤ 1
  pub there : symbol_value k o card ≡ moved_to b (worth xs m (Some o) card).0 (worth xs m (Some o) card).1 0

pub place_worth : (b p q : ℕ) → q ≡ b + p → q % 2 ^ 15 ≡ moved_to b (p % 2 ^ 15) 1 0
place_worth b p q e = omega (arith, e)

pub below_top : (p : ℕ) → p % 2 ^ 15 < 2 ^ 15
below_top p = omega arith

pub one_most : 1 ≤ 1
one_most = omega arith

no_room_needed : (b p n q : ℕ) → q ≡ b + p → b + p ≤ 32768 → q + 0 + 0 ≤ max_place
no_room_needed b p n q e h = omega (arith, e, h)

pub fresh_here : (m : Moved) (more : List (ℕ × ℕ)) (symbol : Option ℕ) → symbol_is_known (record { place = m.known.place; symbols = m.known.symbols ++ more }) symbol ≡ false
    → symbol_is_known m.known symbol ≡ false
fresh_here m more None h = refl
fresh_here m more (Some name) h = by_value (value_in (m.known.symbols ++ more) name) refl h
  where
    by_value : (o : Option ℕ) → value_in (m.known.symbols ++ more) name ≡ o → not (is_none o) ≡ false → symbol_is_known m.known (Some name) ≡ false
    by_value None e f = ap (λ (o : Option ℕ). not (is_none o)) (front_none m.known.symbols more name e)
    by_value (Some v) e f = absurd cc

-- an EQU without a fault has none by the cards before alone
equ_sound : (r : Relocated) (m : Moved) (before : List (List ℕ)) (card : List ℕ) → IsGood r m before card equ → equ_fault r.externs m card ≡ 0
equ_sound r m before card g =
    let s = g.sound in
    let right : is_none (early_kind r.externs m equ card) ≡ false = ap is_none g.kind_is in
    let near : nat_lt max_place (m.known.place + 0 + 1) ≡ false = far_test max_place (m.known.place + 0 + 1) s.room in
    ap (λ (f : Option Field). fault_with (with_externs r.externs m.known.symbols) 1 (is_none (early_kind r.externs m equ card)) m.known equ card f) s.field_is
    ∙ passed (is_misshapen equ card) (field_is_wrong (with_externs r.externs m.known.symbols) m.known (Some s.field) || is_none (early_kind r.externs m equ card))
    (not (field_is_defined (with_externs r.externs m.known.symbols) (Some s.field))) (symbol_is_known m.known (symbol_of card))
    (nat_lt max_place (m.known.place + 0 + 1))
    (record {
      shape = s.shape;
      right = rw (right, tag_stays (with_externs r.externs m.known.symbols) m (symbols_seen m before) s.field refl (sym (ap (λ (f : Option Field). field_is_wrong (with_externs r.externs m.known.symbols) (symbols_seen m before) f) s.field_is) ∙ s.light_tag)) refl;
      defined = ap not s.defined;
      fresh = fresh_here m (with_externs (named_by (codes "EXTERN") before) []) (symbol_of card) s.fresh;
      near = near;
    })
  where
    far_test : (a b : ℕ) → b ≤ a → nat_lt a b ≡ false
    far_test a b h = grind (arith, nat_tests)

    tag_stays : (names : List (ℕ × ℕ)) (m : Moved) (k : Known) (f : Field) → k.place ≡ m.known.place → field_is_wrong names k (Some f) ≡ false
        → field_is_wrong names m.known (Some f) ≡ false
    tag_stays names m k (placed a t d) e h = rw (sym e) h
    tag_stays names m k (half n) e h = refl
    tag_stays names m k nothing e h = refl
    tag_stays names m k (value ts) e h = refl
    tag_stays names m k (words ws) e h = refl

-- and none where it comes to lie
equ_early : (b : ℕ) (entries : List (ℕ × ℕ)) (r : Relocated) (m : Moved) (before : List (List ℕ)) (card : List ℕ) (k : Known) → Behind b m k
    → IsGood r m before card equ → (one : OneValue 1 b entries r.externs m card equ) → symbol_is_known k (symbol_of card) ≡ false
    → k.place ≤ max_place → early_fault k equ card ≡ 0
equ_early b entries r m before card k h g one fresh room =
    let s = g.sound in
    let there : value_of k.symbols k.place one.terms ≡ Some (moved_to b one.result (weight_of (weights_here (so_far b entries r.externs m)) one.terms) 0) =
    ap (λ (l : List (ℕ × ℕ)). value_of l k.place one.terms) h.symbols
    ∙ ap (λ (n : ℕ). value_of (raised_table b m.known.symbols m.weights) n one.terms) h.place ∙ (one.light).there in
    let defined : not (is_none (value_of k.symbols 0 one.terms)) ≡ true = ap not (none_at k.symbols 0 k.place 0 0 one.terms ∙ ap is_none there) in
    let near : nat_lt max_place (k.place + 0 + 0) ≡ false = far_test k.place max_place room in
    ap (λ (f : Option Field). fault_with k.symbols 0 false k equ card f) one.field_is
    ∙ passed (is_misshapen equ card) false (not (not (is_none (value_of k.symbols 0 one.terms)))) (symbol_is_known k (symbol_of card)) (nat_lt max_place (k.place + 0 + 0))
    (record { shape = s.shape; right = refl; defined = ap not defined; fresh = fresh; near = near })
  where
    far_test : (p a : ℕ) → p ≤ a → nat_lt a (p + 0 + 0) ≡ false
    far_test p a h = grind (arith, nat_tests)

pub equ_worth : (b : ℕ) (entries : List (ℕ × ℕ)) (r : Relocated) (m : Moved) (before : List (List ℕ)) (card : List ℕ) (k : Known) → Behind b m k
    → IsGood r m before card equ → (one : OneValue 1 b entries r.externs m card equ) → one.result < 2 ^ 15 → symbol_is_known k (symbol_of card) ≡ false
    → k.place ≤ max_place → Worth b r.externs m k card equ
equ_worth b entries r m before card k h g one small fresh room =
    let s : Setting = so_far b entries r.externs m in
    let sound : equ_fault r.externs m card ≡ 0 = equ_sound r m before card g in
    let early : early_fault k equ card ≡ 0 = equ_early b entries r m before card k h g one fresh room in
    let weight : ℕ = weight_of (weights_here s) one.terms in
    let value_is : said m.known (field_for equ card) ≡ one.result =
    ap (λ (f : Option Field). said m.known f) one.field_is ∙ ap or_zero (one.light).here in
    let kind_is : or_zero (early_kind r.externs m equ card) ≡ weight =
    ap (λ (f : Option Field). or_zero (kind_of equ r.externs (with_externs r.externs m.weights) f)) one.field_is
    ∙ ap (λ (t : Bool). or_zero (if t then Some weight else None)) (one.light).light in
    let both : worth r.externs m (Some equ) card ≡ (one.result, weight) =
    ap (λ (t : Bool). if t then (said m.known (field_for equ card), or_zero (early_kind r.externs m equ card)) else (0, 0)) (eq-eqb (equ_fault r.externs m card) 0 sound)
    ∙ rw (value_is, kind_is) refl in
    let there : symbol_value k equ card ≡ moved_to b one.result weight 0 =
    ap (λ (t : Bool). if t then said k (field_for equ card) else 0) (eq-eqb (early_fault k equ card) 0 early)
    ∙ ap (λ (f : Option Field). said k f) one.field_is
    ∙ ap (λ (l : List (ℕ × ℕ)). or_zero (value_of l k.place one.terms)) h.symbols
    ∙ ap (λ (n : ℕ). or_zero (value_of (raised_table b m.known.symbols m.weights) n one.terms)) h.place ∙ ap or_zero (one.light).there in
    record {
      small = rw both small;
      light = rw both (one.light).weight;
      there = rw both there;
    }

-- sizes, here and there

pub early_words : (xs : List ℕ) (weights : List (ℕ × ℕ)) (o : Operation) (f : Option Field) (ws : Option (List ℕ)) (x : Field)
    → ((us : List ℕ) → kind_of o xs weights (Some (words us)) ≡ Some 0) → f ≡ option_map (λ ws. words ws) ws → f ≡ Some x → kind_of o xs weights f ≡ Some 0
early_words xs weights o f ws x none form is =
    let m = mapped (λ ws. words ws) ws x (sym form ∙ is) in
    ap (λ (y : Option Field). kind_of o xs weights y) (is ∙ ap (λ (y : Field). Some y) (sym m.2)) ∙ none m.0

fits : (b p n s q : ℕ) → q ≡ b + p → s ≡ n → b + (p + s) ≤ 32768 → q + n ≤ max_place
fits b p n s q e h k = omega (arith, e, h, k)

pub near_end : (p n c d : ℕ) → p + n + 1 ≤ max_place → n ≡ c → c ≡ d → p + d < max_place
near_end p n c d h e f = omega (arith, h, e, f)

pub sized : (b : ℕ) (xs : List ℕ) (m : Moved) (k seen_known : Known) (o : Operation) (card : List ℕ) (kind : ℕ) → Behind b m k → Counted o m.known seen_known k (field_for o card)
    → early_kind xs m o card ≡ Some kind → seen_known.place ≡ m.known.place → seen_known.place + count_of o seen_known (field_for o card) + 1 ≤ max_place
    → b + (m.known.place + moved_size xs m (Some o) card) ≤ 32768 → size_of o k (field_for o card) ≡ moved_size xs m (Some o) card
sized b xs m k seen_known o card kind h c early at room bound =
    let counted : count_of o m.known (field_for o card) ≡ count_in xs m o card = counts xs m o card kind early in
    let last : m.known.place + count_in xs m o card < max_place =
    near_end m.known.place (count_of o seen_known (field_for o card)) (count_of o m.known (field_for o card)) (count_in xs m o card)
    (subst (λ (p : ℕ). p + count_of o seen_known (field_for o card) + 1 ≤ max_place) at room) c.as_seen counted in
    let moved : moved_size xs m (Some o) card ≡ count_of o m.known (field_for o card) = moved_size_is xs m o card counted last in
    let there : moved_size xs m (Some o) card ≡ count_of o k (field_for o card) = moved ∙ sym c.as_there in
    size_is o k (field_for o card) (fits b m.known.place (count_of o k (field_for o card)) (moved_size xs m (Some o) card) k.place h.place there bound)
    ∙ sym there

-- one card more

pub record Stepped (b : ℕ) (xs : List ℕ) (m : Moved) (k : Known) (card : List ℕ) (o : Operation) : Type 0 where
  pub size : size_of o k (field_for o card) ≡ moved_size xs m (Some o) card
  pub worth : Worth b xs m k card o

place_next : (b p q s t : ℕ) → q ≡ b + p → t ≡ s → q + t ≡ b + (p + s)
place_next b p q s t e h = omega (arith, e, h)

abbrev pub is_org : Operation → Bool
is_org org = true
is_org o = false

next_is : (k : Known) (o : Operation) (card : List ℕ) → is_org o ≡ false → next_place k o card ≡ k.place + size_of o k (field_for o card)
next_is k org card h = absurd cc
next_is k o card h = refl

pub step_with : (b : ℕ) (xs : List ℕ) (m : Moved) (k : Known) (card : List ℕ) (o : Operation) → Behind b m k → is_org o ≡ false
    → symbol_is_known m.known (symbol_of card) ≡ false → Stepped b xs m k card o → Behind b (moved_with xs m (Some o) card) (known_with k (Some o) card)
step_with b xs m k card o h other fresh s =
    let w : ℕ × ℕ = worth xs m (Some o) card in
    let y : Symbolled b m k (symbol_of card) (worth xs m (Some o) card).0 (worth xs m (Some o) card).1 (symbol_value k o card) =
    symbolled b m k (symbol_of card) (worth xs m (Some o) card).0 (worth xs m (Some o) card).1 (symbol_value k o card) h fresh (s.worth).small (s.worth).light (s.worth).there in
    record {
      place = next_is k o card other ∙ place_next b m.known.place k.place (moved_size xs m (Some o) card) (size_of o k (field_for o card)) h.place s.size;
      symbols = y.symbols;
      aligned = y.aligned;
    }
