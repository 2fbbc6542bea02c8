-- What a card of a module without a fault says, and its words where the module comes to lie.
use Rattle.std.proofs.Common.{◌≡◌, ℕ, ◌+◌, Bool, true, false, not, ◌&&◌, if◌then◌else◌, nat_eq, nat_le, List, [], ◌∷◌, length, get_or, Some, None, is_none, refl, sym, ap, ◌∙◌, subst}
use Rattle.std.specs.Option.{option_map, option_and_then}
use Rattle.std.proofs.lemmas.Bool.{and_parts}
use Rattle.opcode_table.specs.Table.{class_of}
use Rattle.opcode_table.specs.declared.op.Op.{Op}
use Rattle.opcode_table.specs.declared.op.Class.{Class}
use Rattle.opcode_table.specs.declared.op.Class.TheVariants as class
use Rattle.opcode_table.specs.declared.op.Kind.{Kind}
use Rattle.opcode_table.specs.declared.op.Kind.TheVariants as kind
use Rattle.fap_model.specs.Terms.{Signed, expression, items_of, literal_word, octal_number}
use Rattle.fap_model.specs.declared.types.Operation.{Operation}
use Rattle.fap_model.specs.declared.types.Operation.TheVariants.{Machine as machine, Pze as pze}
use Rattle.fap_model.specs.declared.types.Form.TheVariants.{OctalHalf as octal_half, Empty as empty}
use Rattle.fap_model.specs.Statements.{Address, plain, literal, Field, placed, half, nothing, machine_form, address_of, parts_of, field_by}
use Rattle.fap_model.specs.Places.{value_of, or_zero, is_defined, address_is_defined}
use Rattle.fap_model.specs.Decks.{Whole, machine_word, plain_word}
use Rattle.link_model.specs.Links.{raised, raised_by}
use Rattle.link_model.specs.Weights.{is_light, address_kind, kind_in}
use Rattle.rule_laws.proofs.Values.{Setting, IsSound, names_here, weights_here, AreShort}
use Rattle.rule_laws.proofs.Shorts.{mapped, chained, expression_short}
use Rattle.rule_laws.proofs.Raises.{none_raised, is_group}
use Rattle.rule_laws.proofs.Fields.{Twice, ShortAddress, IsPlaced, machine_there, plain_word_there}

-- the parts of a field are short
address_short : (text : List ℕ) (a : Address) → address_of text ≡ Some a → ShortAddress a
address_short [] a h = subst ShortAddress (some_address (plain []) a h) tt
  where
    some_address : (x y : Address) → Some x ≡ Some y → x ≡ y
    some_address x y e = cc
address_short (b ∷ text) a h = by_test (nat_eq b 61) h
  where
    by_test : (t : Bool) → (if t then option_map (λ w. literal w) (literal_word text) else option_map (λ ts. plain ts) (expression (b ∷ text))) ≡ Some a
        → ShortAddress a
    by_test true e = let m = mapped (λ w. literal w) (literal_word text) a e in subst ShortAddress m.2 tt
    by_test false e =
        let m = mapped (λ ts. plain ts) (expression (b ∷ text)) a e in subst ShortAddress m.2 (expression_short (b ∷ text) m.0 m.1)

pub record ShortParts (f : Field) : Type 0 where
  pub address : Address
  pub tag : List Signed
  pub decrement : List Signed
  pub field_is : f ≡ placed address tag decrement
  pub short_address : ShortAddress address
  pub short_tag : AreShort tag
  pub short_decrement : AreShort decrement

pub parts_short : (most : ℕ) (items : List (List ℕ)) (f : Field) → parts_of most items ≡ Some f → ShortParts f
parts_short most items f h = by_test (nat_le (length items) most) h
  where
    by_test : (t : Bool)
        → (if t then
        option_and_then (λ a. option_and_then (λ tag. option_map (λ decrement. placed a tag decrement)
        (expression (get_or items 2 []))) (expression (get_or items 1 []))) (address_of (get_or items 0 []))
        else None) ≡ Some f
        → ShortParts f
    by_test false e = absurd cc
    by_test true e =
        let a = chained (λ a. option_and_then (λ tag. option_map (λ decrement. placed a tag decrement)
        (expression (get_or items 2 []))) (expression (get_or items 1 []))) (address_of (get_or items 0 [])) f e in
        let t = chained (λ tag. option_map (λ decrement. placed a.0 tag decrement) (expression (get_or items 2 []))) (expression (get_or items 1 [])) f a.2 in
        let d = mapped (λ decrement. placed a.0 t.0 decrement) (expression (get_or items 2 [])) f t.2 in
        record {
          address = a.0;
          tag = t.0;
          decrement = d.0;
          field_is = sym d.2;
          short_address = address_short (get_or items 0 []) a.0 a.1;
          short_tag = expression_short (get_or items 1 []) t.0 t.1;
          short_decrement = expression_short (get_or items 2 []) d.0 d.1;
        }

-- the field of an instruction: parts where its class isn't the group's, half a word, or nothing
pub data MachineField (c : Class) (f : Field) : Type 0 where
  of_parts : is_group c ≡ false → ShortParts f → MachineField c f
  of_half : (n : ℕ) → f ≡ half n → MachineField c f
  of_nothing : f ≡ nothing → MachineField c f

half_field : (c : Class) (field card : List ℕ) (f : Field) → field_by octal_half field card ≡ Some f → MachineField c f
half_field c field card f h = let m = mapped (λ n. half n) (octal_number 6 field) f h in of_half m.0 (sym m.2)

empty_field : (c : Class) (field card : List ℕ) (f : Field) → field_by empty field card ≡ Some f → MachineField c f
empty_field c field card f h = by_test (nat_eq (length field) 0) h
  where
    some_field : (x y : Field) → Some x ≡ Some y → x ≡ y
    some_field x y e = cc

    by_test : (t : Bool) → (if t then Some nothing else None) ≡ Some f → MachineField c f
    by_test true e = of_nothing (sym (some_field nothing f e))
    by_test false e = absurd cc

pub machine_field : (c : Class) (k : Kind) (field card : List ℕ) (f : Field) → field_by (machine_form c k) field card ≡ Some f → MachineField c f
machine_field class.Addressed k field card f h = of_parts refl (parts_short 2 (items_of field) f h)
machine_field class.Direct k field card f h = of_parts refl (parts_short 2 (items_of field) f h)
machine_field class.Tagged kind.Logic field card f h = half_field class.Tagged field card f h
machine_field class.Tagged kind.Fixed field card f h = of_parts refl (parts_short 2 (items_of field) f h)
machine_field class.Tagged kind.Index field card f h = of_parts refl (parts_short 2 (items_of field) f h)
machine_field class.Tagged kind.Xec field card f h = of_parts refl (parts_short 2 (items_of field) f h)
machine_field class.Tagged kind.Tia field card f h = of_parts refl (parts_short 2 (items_of field) f h)
machine_field class.Prefixed k field card f h = of_parts refl (parts_short 3 (items_of field) f h)
machine_field class.Group k field card f h = empty_field class.Group field card f h

-- the parts of a field whose expressions are defined and weigh what they may
placed_parts : (s : Setting) (o : Operation) (f : Field) (k : ℕ) (p : ShortParts f) → is_defined (names_here s) f ≡ true
    → kind_in o s.externs (weights_here s) f ≡ Some k → IsPlaced s o p.address p.tag p.decrement k
placed_parts s o f k p defined kind =
    let d : is_defined (names_here s) (placed p.address p.tag p.decrement) ≡ true = ap (λ (x : Field). is_defined (names_here s) x) (sym p.field_is) ∙ defined in
    let both = and_parts (address_is_defined (names_here s) p.address)
    (not (is_none (value_of (names_here s) 0 p.tag)) && not (is_none (value_of (names_here s) 0 p.decrement))) d in
    let two = and_parts (not (is_none (value_of (names_here s) 0 p.tag))) (not (is_none (value_of (names_here s) 0 p.decrement))) both.1 in
    let weighed : kind_in o s.externs (weights_here s) (placed p.address p.tag p.decrement) ≡ Some k =
    ap (λ (x : Field). kind_in o s.externs (weights_here s) x) (sym p.field_is) ∙ kind in
    by_light (is_light 0 s.externs (weights_here s) p.tag && is_light 0 s.externs (weights_here s) p.decrement) refl weighed both.0 two.0 two.1
  where
    by_light :
        (t : Bool) → (is_light 0 s.externs (weights_here s) p.tag && is_light 0 s.externs (weights_here s) p.decrement) ≡ t
        → (if t then address_kind s.externs (weights_here s) p.address else None) ≡ Some k
        → address_is_defined (names_here s) p.address ≡ true → not (is_none (value_of (names_here s) 0 p.tag)) ≡ true
        → not (is_none (value_of (names_here s) 0 p.decrement)) ≡ true → IsPlaced s o p.address p.tag p.decrement k
    by_light false e none a t d = absurd cc
    by_light true e some a t d =
        let light = and_parts (is_light 0 s.externs (weights_here s) p.tag) (is_light 0 s.externs (weights_here s) p.decrement) e in
        record {
          short_address = p.short_address;
          short_tag = p.short_tag;
          short_decrement = p.short_decrement;
          defined_address = a;
          defined_tag = t;
          defined_decrement = d;
          light_tag = light.0;
          light_decrement = light.1;
          kind = some;
        }

-- the words of cards

zero_kind : (base : ℕ) (entries : List (ℕ × ℕ)) (xs : List ℕ) (k w : ℕ) → k ≡ 0 → raised w (raised_by base entries xs k) ≡ w
zero_kind base entries xs k w e = ap (λ (n : ℕ). raised w (raised_by base entries xs n)) e ∙ none_raised w

pub machine_words : (s : Setting) → IsSound s → (here there : Whole) → Twice s here there → (p k : ℕ) (o : Op) (flag : Bool) (f : Field)
    → MachineField (class_of o) f → is_defined (names_here s) f ≡ true → kind_in (machine o) s.externs (weights_here s) f ≡ Some k
    → raised (machine_word here p o flag (Some f)) (raised_by s.base s.entries s.externs k) ≡ machine_word there (s.base + p) o flag (Some f)
machine_words s h here there two p k o flag f (of_parts group shape) defined kind =
    let is : IsPlaced s (machine o) shape.address shape.tag shape.decrement k = placed_parts s (machine o) f k shape defined kind in
    ap (λ (x : Field). raised (machine_word here p o flag (Some x)) (raised_by s.base s.entries s.externs k)) shape.field_is
    ∙ sym (machine_there s h here there two p k o flag shape.address shape.tag shape.decrement is group)
    ∙ sym (ap (λ (x : Field). machine_word there (s.base + p) o flag (Some x)) shape.field_is)
machine_words s h here there two p k o flag f (of_half n e) defined kind =
    let none : k ≡ 0 = sym (ap or_zero (sym (ap (λ (x : Field). kind_in (machine o) s.externs (weights_here s) x) e) ∙ kind)) in
    zero_kind s.base s.entries s.externs k (machine_word here p o flag (Some f)) none
    ∙ ap (λ (x : Field). machine_word here p o flag (Some x)) e ∙ sym (ap (λ (x : Field). machine_word there (s.base + p) o flag (Some x)) e)
machine_words s h here there two p k o flag f (of_nothing e) defined kind =
    let none : k ≡ 0 = sym (ap or_zero (sym (ap (λ (x : Field). kind_in (machine o) s.externs (weights_here s) x) e) ∙ kind)) in
    zero_kind s.base s.entries s.externs k (machine_word here p o flag (Some f)) none
    ∙ ap (λ (x : Field). machine_word here p o flag (Some x)) e ∙ sym (ap (λ (x : Field). machine_word there (s.base + p) o flag (Some x)) e)

pub plain_words : (s : Setting) → IsSound s → (here there : Whole) → Twice s here there → (p k : ℕ) (f : Field)
    → ShortParts f → is_defined (names_here s) f ≡ true → kind_in pze s.externs (weights_here s) f ≡ Some k
    → raised (plain_word here p (Some f)) (raised_by s.base s.entries s.externs k) ≡ plain_word there (s.base + p) (Some f)
plain_words s h here there two p k f shape defined kind =
    let is : IsPlaced s pze shape.address shape.tag shape.decrement k = placed_parts s pze f k shape defined kind in
    ap (λ (x : Field). raised (plain_word here p (Some x)) (raised_by s.base s.entries s.externs k)) shape.field_is
    ∙ sym (plain_word_there s h here there two p k shape.address shape.tag shape.decrement is)
    ∙ sym (ap (λ (x : Field). plain_word there (s.base + p) (Some x)) shape.field_is)
