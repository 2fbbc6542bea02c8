-- The words of a card where its module comes to lie are its words with raised addresses.
use Rattle.std.proofs.Common.{◌≡◌, ℕ, zero, suc, ◌+◌, ◌-◌, ◌*◌, ◌%◌, ◌^◌, ◌<◌, ◌≤◌, Bool, true, false, not, if◌then◌else◌, nat_eq, nat_le, List, [], ◌∷◌, length, get_or, Option, Some, None, is_none, refl, sym, ap, ◌∙◌, subst, arith, leb-true, eqb-true}
use Rattle.std.specs.Option.{option_and_then}
use Rattle.std.proofs.lemmas.Bool.{and_parts}
use Rattle.std.proofs.lemmas.Bool.Decides.{nat_tests}
use Rattle.opcode_table.specs.Table.{class_of}
use Rattle.opcode_table.specs.declared.op.Op.{Op}
use Rattle.opcode_table.specs.Words.{encoded}
use Rattle.fap_model.specs.declared.types.Term.{Term}
use Rattle.fap_model.specs.declared.types.Term.TheVariants.{Named, Number, Here}
use Rattle.fap_model.specs.Terms.{Signed}
use Rattle.fap_model.specs.declared.types.Operation.{Operation}
use Rattle.fap_model.specs.declared.types.Operation.TheVariants.{Machine as machine, Pze as pze}
use Rattle.fap_model.specs.Statements.{Address, plain, literal, placed}
use Rattle.fap_model.specs.Places.{value_in, term_value, with_term, value_from, value_of, or_zero, address_is_defined}
use Rattle.fap_model.specs.Decks.{Whole, instruction, index_from, address_value, machine_word, plain_word}
use Rattle.link_model.specs.Weights.{weight_of, is_among, names_extern, externs_in, added_kind, plain_kind, address_kind, is_light}
use Rattle.link_model.specs.Links.{raised, raised_by}
use Rattle.rule_laws.proofs.Sums.{moved_to}
use Rattle.rule_laws.proofs.Values.{Setting, IsSound, names_here, weights_here, names_there, AreShort, extern_from, whole_moves, no_externs, one_extern}
use Rattle.rule_laws.proofs.Raises.{plain_raised, is_group, instruction_raised}

-- what all cards together tell, here and there
pub record Twice (s : Setting) (here there : Whole) : Type 0 where
  pub names : here.names ≡ names_here s
  pub names_too : there.names ≡ names_there s
  pub literals : there.literals ≡ here.literals
  pub ends : there.end_place ≡ s.base + here.end_place

-- whether there is a value doesn't depend on the place
term_none : (names : List (ℕ × ℕ)) (p q : ℕ) (t : Term) (f g : ℕ → Option ℕ) → ((v w : ℕ) → is_none (f v) ≡ is_none (g w))
    → is_none (option_and_then f (term_value names p t)) ≡ is_none (option_and_then g (term_value names q t))
term_none names p q (Named name) f g h = by (value_in names name)
  where
    by : (o : Option ℕ) → is_none (option_and_then f o) ≡ is_none (option_and_then g o)
    by None = refl
    by (Some v) = h v v
term_none names p q (Number n) f g h = h n n
term_none names p q Here f g h = h _ _

pub none_at : (names : List (ℕ × ℕ)) (p q r s : ℕ) (ts : List Signed) → is_none (value_from names p r ts) ≡ is_none (value_from names q s ts)
none_at names p q r s [] = refl
none_at names p q r s (t ∷ ts) =
    term_none names p q t.1 (λ v. value_from names p (with_term r t.0 v) ts) (λ v. value_from names q (with_term s t.0 v) ts)
    (λ v w. none_at names p q (with_term r t.0 v) (with_term s t.0 w) ts)

there_is : (o : Option ℕ) → not (is_none o) ≡ true → (v : ℕ) × (o ≡ Some v)
there_is None h = absurd cc
there_is (Some v) h = (v, refl)

pub has_value : (names : List (ℕ × ℕ)) (p : ℕ) (ts : List Signed) → not (is_none (value_of names 0 ts)) ≡ true → (v : ℕ) × (value_of names p ts ≡ Some v)
has_value names p ts h = there_is (value_of names p ts) (ap not (none_at names p 0 0 0 ts) ∙ h)

-- values are addresses
taken_small : (sum : ℕ) (minus : Bool) (v : ℕ) → with_term sum minus v < 2 ^ 15
taken_small sum false v = omega arith
taken_small sum true v = omega arith

pub value_small : (names : List (ℕ × ℕ)) (p : ℕ) (ts : List Signed) (sum v : ℕ) → sum < 2 ^ 15 → value_from names p sum ts ≡ Some v → v < 2 ^ 15
value_small names p [] sum v small h =
    let is : sum ≡ v = ap or_zero h in subst (λ (n : ℕ). n < 2 ^ 15) is small
value_small names p (t ∷ ts) sum v small h =
    by_value (term_value names p t.1) refl (λ x rest. value_small names p ts (with_term sum t.0 x) v (taken_small sum t.0 x) rest)
  where
    by_value : (o : Option ℕ) → term_value names p t.1 ≡ o → ((x : ℕ) → value_from names p (with_term sum t.0 x) ts ≡ Some v → v < 2 ^ 15) → v < 2 ^ 15
    by_value None none ih =
        let no : None ≡ Some v = sym (ap (λ (o : Option ℕ). option_and_then (λ (x : ℕ). value_from names p (with_term sum t.0 x) ts) o) none) ∙ h in
        absurd cc
    by_value (Some x) some ih =
        ih x
        (sym (ap (λ (o : Option ℕ). option_and_then (λ (x : ℕ). value_from names p (with_term sum t.0 x) ts) o) some) ∙ h)

stays : (b v : ℕ) → v < 2 ^ 15 → moved_to b v 0 0 ≡ v
stays b v h = omega (arith, h)

nothing_left : (ts : List Signed) → length ts ≡ 0 → ts ≡ []
nothing_left [] h = refl
nothing_left (t ∷ ts) h = absurd (omega (arith, h))

zero_small : 0 < 2 ^ 15
zero_small = omega arith

zero_is : (n : ℕ) → n ≤ 0 → n ≡ 0
zero_is n h = omega (arith, h)

-- a value that weighs nothing
pub light_stays : (s : Setting) → IsSound s → (p : ℕ) (ts : List Signed) (v : ℕ) → AreShort ts → is_light 0 s.externs (weights_here s) ts ≡ true
    → value_of (names_here s) p ts ≡ Some v → value_of (names_there s) (s.base + p) ts ≡ Some v
light_stays s h p ts v short light e =
    let parts = and_parts (nat_le (weight_of (weights_here s) ts) 0) (nat_eq (length (externs_in s.externs ts)) 0) light in
    let weight : weight_of (weights_here s) ts ≡ 0 = zero_is (weight_of (weights_here s) ts) (leb-true (weight_of (weights_here s) ts) 0 parts.0) in
    let none : externs_in s.externs ts ≡ [] = nothing_left (externs_in s.externs ts) (eqb-true (length (externs_in s.externs ts)) 0 parts.1) in
    let worth : extern_from s 0 ts ≡ 0 = no_externs s ts 0 zero_small none in
    whole_moves s h p ts short v e
    ∙ ap (λ (n : ℕ). Some (moved_to s.base v n (extern_from s 0 ts))) weight
    ∙ ap (λ (n : ℕ). Some (moved_to s.base v 0 n)) worth
    ∙ ap (λ (n : ℕ). Some n) (stays s.base v (value_small (names_here s) p ts 0 v zero_small e))

-- where an extern stands among all
index_at : (n : ℕ) (xs : List ℕ) (w : ℕ) → is_among xs w ≡ true → (i : ℕ) × (index_from n xs w ≡ n + i) × (get_or xs i 0 ≡ w)
index_at n [] w h = absurd cc
index_at n (x ∷ xs) w h = by_test (nat_eq x w) refl (λ among. index_at (suc n) xs w among)
  where
    by_test : (b : Bool) → nat_eq x w ≡ b → (is_among xs w ≡ true → (i : ℕ) × (index_from (suc n) xs w ≡ suc n + i) × (get_or xs i 0 ≡ w))
        → (i : ℕ) × (index_from n (x ∷ xs) w ≡ n + i) × (get_or (x ∷ xs) i 0 ≡ w)
    by_test true e ih = (0, rw e (omega arith), eqb-true x w e)
    by_test false e ih =
        let among : is_among xs w ≡ true = rw e at h in
        let rest = ih among in
        let place : suc n + rest.0 ≡ n + suc rest.0 = omega arith in
        (suc rest.0, rw e (rest.1 ∙ place), rest.2)

extern_raise : (base : ℕ) (entries : List (ℕ × ℕ)) (xs : List ℕ) (w k : ℕ) → is_among xs w ≡ true → k ≡ 2 + index_from 0 xs w
    → raised_by base entries xs k ≡ or_zero (value_in entries w)
extern_raise base entries xs w k among e =
    let i = index_at 0 xs w among in
    let place : index_from 0 xs w ≡ 0 + i.0 = i.1 in
    let high : k ≡ 2 + i.0 = omega (arith, e, place) in
    let no : nat_eq (2 + i.0) 0 ≡ false = grind (arith, nat_tests) in
    let not_one : nat_eq (2 + i.0) 1 ≡ false = grind (arith, nat_tests) in
    let less : 2 + i.0 - 2 ≡ i.0 = omega arith in
    rw (high, no, not_one, less) (ap (λ (n : ℕ). or_zero (value_in entries n)) i.2)

light_sum : (b v w k : ℕ) → w ≤ 1 → w ≡ k → moved_to b v w 0 ≡ (v + (if nat_eq k 0 then 0 else (if nat_eq k 1 then b else 0))) % 2 ^ 15
light_sum b v zero k h e = rw (sym e) (omega arith)
light_sum b v (suc zero) k h e = rw (sym e) (omega arith)
light_sum b v (suc (suc w)) k h e = absurd (omega (arith, h))

extern_sum : (b v g : ℕ) → moved_to b v 0 g ≡ (v + g) % 2 ^ 15
extern_sum b v g = omega arith

-- an extern that a term names is among all
named_among : (xs : List ℕ) (ts : List Signed) (name : ℕ) → externs_in xs ts ≡ (false, Named name) ∷ [] → is_among xs name ≡ true
named_among xs [] name h = absurd cc
named_among xs (t ∷ ts) name h = by_test (names_extern xs t.1) refl (λ rest. named_among xs ts name rest)
  where
    by_test : (b : Bool) → names_extern xs t.1 ≡ b → (externs_in xs ts ≡ (false, Named name) ∷ [] → is_among xs name ≡ true) → is_among xs name ≡ true
    by_test true e ih =
        let all : t ∷ externs_in xs ts ≡ (false, Named name) ∷ [] = sym (ap (λ (b : Bool). if b then t ∷ externs_in xs ts else externs_in xs ts) e) ∙ h in
        let first : t ≡ (false, Named name) = cc in
        ap (λ (x : Signed). names_extern xs x.1) (sym first) ∙ e
    by_test false e ih =
        ih (sym (ap (λ (b : Bool). if b then t ∷ externs_in xs ts else externs_in xs ts) e) ∙ h)

-- an address by its kind, where its value is known
raise_small : (base : ℕ) (entries : List (ℕ × ℕ)) (xs : List ℕ) (w : ℕ) → w ≤ 1
    → raised_by base entries xs w ≡ (if nat_eq w 0 then 0 else (if nat_eq w 1 then base else 0))
raise_small base entries xs zero h = refl
raise_small base entries xs (suc zero) h = refl
raise_small base entries xs (suc (suc w)) h = absurd (omega (arith, h))

plain_there : (s : Setting) → IsSound s → (ts : List Signed) (v k : ℕ) (es : List Signed) → externs_in s.externs ts ≡ es
    → plain_kind s.externs (weight_of (weights_here s) ts) es ≡ Some k
    → moved_to s.base v (weight_of (weights_here s) ts) (extern_from s 0 ts) ≡ (v + raised_by s.base s.entries s.externs k) % 2 ^ 15
plain_there s h ts v k [] e kind = by_test (nat_le (weight_of (weights_here s) ts) 1) refl kind
  where
    by_test : (b : Bool) → nat_le (weight_of (weights_here s) ts) 1 ≡ b → (if b then Some (weight_of (weights_here s) ts) else None) ≡ Some k
        → moved_to s.base v (weight_of (weights_here s) ts) (extern_from s 0 ts) ≡ (v + raised_by s.base s.entries s.externs k) % 2 ^ 15
    by_test true light is =
        let small : weight_of (weights_here s) ts ≤ 1 = leb-true (weight_of (weights_here s) ts) 1 light in
        let same : weight_of (weights_here s) ts ≡ k = ap or_zero is in
        ap (λ (g : ℕ). moved_to s.base v (weight_of (weights_here s) ts) g) (no_externs s ts 0 zero_small e)
        ∙ light_sum s.base v (weight_of (weights_here s) ts) (weight_of (weights_here s) ts) small refl
        ∙ ap (λ (n : ℕ). (v + n) % 2 ^ 15) (sym (raise_small s.base s.entries s.externs (weight_of (weights_here s) ts) small))
        ∙ ap (λ (n : ℕ). (v + raised_by s.base s.entries s.externs n) % 2 ^ 15) same
    by_test false heavy is = absurd cc
plain_there s h ts v k (t ∷ []) e kind = by_test (nat_eq (weight_of (weights_here s) ts) 0) refl kind
  where
    by_term : (minus : Bool) (x : Term) → externs_in s.externs ts ≡ (minus, x) ∷ [] → added_kind s.externs minus x ≡ Some k
        → moved_to s.base v 0 (extern_from s 0 ts) ≡ (v + raised_by s.base s.entries s.externs k) % 2 ^ 15
    by_term true x is added = absurd cc
    by_term false (Number n) is added = absurd cc
    by_term false Here is added = absurd cc
    by_term false (Named name) is added =
        let place : k ≡ 2 + index_from 0 s.externs name = sym (ap or_zero added) in
        ap (λ (g : ℕ). moved_to s.base v 0 g) (one_extern s h ts name is)
        ∙ extern_sum s.base v (or_zero (value_in s.entries name))
        ∙ ap (λ (n : ℕ). (v + n) % 2 ^ 15) (sym (extern_raise s.base s.entries s.externs name k (named_among s.externs ts name is) place))

    by_test : (b : Bool) → nat_eq (weight_of (weights_here s) ts) 0 ≡ b → (if b then added_kind s.externs t.0 t.1 else None) ≡ Some k
        → moved_to s.base v (weight_of (weights_here s) ts) (extern_from s 0 ts) ≡ (v + raised_by s.base s.entries s.externs k) % 2 ^ 15
    by_test true none is =
        ap (λ (n : ℕ). moved_to s.base v n (extern_from s 0 ts)) (eqb-true (weight_of (weights_here s) ts) 0 none) ∙ by_term t.0 t.1 e is
    by_test false some is = absurd cc
plain_there s h ts v k (t ∷ u ∷ es) e kind = absurd cc

literal_there : (b e i : ℕ) → (b + e + i) % 2 ^ 15 ≡ ((e + i) % 2 ^ 15 + b) % 2 ^ 15
literal_there b e i = omega arith

pub address_small : (s : Setting) (here there : Whole) → Twice s here there → (p : ℕ) (a : Address) → address_is_defined (names_here s) a ≡ true
    → address_value here p a < 2 ^ 15
address_small s here there two p (plain ts) defined =
    let v = has_value (names_here s) p ts defined in
    let is : address_value here p (plain ts) ≡ v.0 = ap (λ (l : List (ℕ × ℕ)). or_zero (value_of l p ts)) two.names ∙ ap or_zero v.1 in
    subst (λ (n : ℕ). n < 2 ^ 15) (sym is) (value_small (names_here s) p ts 0 v.0 zero_small v.1)
address_small s here there two p (literal w) defined = omega arith

abbrev pub ShortAddress : Address → Type 0
ShortAddress (plain ts) = AreShort ts
ShortAddress (literal w) = Unit {0}

pub address_there : (s : Setting) → IsSound s → (here there : Whole) → Twice s here there → (p k : ℕ) (a : Address) → ShortAddress a
    → address_is_defined (names_here s) a ≡ true → address_kind s.externs (weights_here s) a ≡ Some k
    → address_value there (s.base + p) a ≡ (address_value here p a + raised_by s.base s.entries s.externs k) % 2 ^ 15
address_there s h here there two p k (plain ts) short defined kind =
    let v = has_value (names_here s) p ts defined in
    ap (λ (l : List (ℕ × ℕ)). or_zero (value_of l (s.base + p) ts)) two.names_too
    ∙ ap or_zero (whole_moves s h p ts short v.0 v.1)
    ∙ plain_there s h ts v.0 k (externs_in s.externs ts) refl kind
    ∙ ap (λ (n : ℕ). (n + raised_by s.base s.entries s.externs k) % 2 ^ 15)
    (sym (ap (λ (l : List (ℕ × ℕ)). or_zero (value_of l p ts)) two.names ∙ ap or_zero v.1))
address_there s h here there two p k (literal w) short defined kind =
    let one : k ≡ 1 = sym (ap or_zero kind) in
    ap (λ (n : ℕ). (n + index_from 0 there.literals w) % 2 ^ 15) two.ends
    ∙ ap (λ (l : List ℕ). (s.base + here.end_place + index_from 0 l w) % 2 ^ 15) two.literals
    ∙ literal_there s.base here.end_place (index_from 0 here.literals w)
    ∙ ap (λ (n : ℕ). ((here.end_place + index_from 0 here.literals w) % 2 ^ 15 + raised_by s.base s.entries s.externs n) % 2 ^ 15) (sym one)

-- a field's parts
pub record IsPlaced (s : Setting) (o : Operation) (a : Address) (tag decrement : List Signed) (k : ℕ) : Type 0 where
  pub short_address : ShortAddress a
  pub short_tag : AreShort tag
  pub short_decrement : AreShort decrement
  pub defined_address : address_is_defined (names_here s) a ≡ true
  pub defined_tag : not (is_none (value_of (names_here s) 0 tag)) ≡ true
  pub defined_decrement : not (is_none (value_of (names_here s) 0 decrement)) ≡ true
  pub light_tag : is_light 0 s.externs (weights_here s) tag ≡ true
  pub light_decrement : is_light 0 s.externs (weights_here s) decrement ≡ true
  pub kind : address_kind s.externs (weights_here s) a ≡ Some k

part_there : (s : Setting) → IsSound s → (here there : Whole) → Twice s here there → (p : ℕ) (ts : List Signed) → AreShort ts
    → not (is_none (value_of (names_here s) 0 ts)) ≡ true → is_light 0 s.externs (weights_here s) ts ≡ true
    → or_zero (value_of there.names (s.base + p) ts) ≡ or_zero (value_of here.names p ts)
part_there s h here there two p ts short defined light =
    let v = has_value (names_here s) p ts defined in
    ap (λ (l : List (ℕ × ℕ)). or_zero (value_of l (s.base + p) ts)) two.names_too
    ∙ ap or_zero (light_stays s h p ts v.0 short light v.1)
    ∙ sym (ap (λ (l : List (ℕ × ℕ)). or_zero (value_of l p ts)) two.names ∙ ap or_zero v.1)

pub machine_there : (s : Setting) → IsSound s → (here there : Whole) → Twice s here there → (p k : ℕ) (o : Op) (flag : Bool) (a : Address)
    (tag decrement : List Signed) → IsPlaced s (machine o) a tag decrement k → is_group (class_of o) ≡ false
    → machine_word there (s.base + p) o flag (Some (placed a tag decrement))
    ≡ raised (machine_word here p o flag (Some (placed a tag decrement))) (raised_by s.base s.entries s.externs k)
machine_there s h here there two p k o flag a tag decrement is group =
    let t : ℕ = or_zero (value_of here.names p tag) in
    let d : ℕ = or_zero (value_of here.names p decrement) in
    let r : ℕ = raised_by s.base s.entries s.externs k in
    ap (λ (n : ℕ). encoded (instruction o flag n (address_value there (s.base + p) a) (or_zero (value_of there.names (s.base + p) decrement))))
    (part_there s h here there two p tag is.short_tag is.defined_tag is.light_tag)
    ∙ ap (λ (n : ℕ). encoded (instruction o flag t (address_value there (s.base + p) a) n))
    (part_there s h here there two p decrement is.short_decrement is.defined_decrement is.light_decrement)
    ∙ ap (λ (n : ℕ). encoded (instruction o flag t n d)) (address_there s h here there two p k a is.short_address is.defined_address is.kind)
    ∙ sym (instruction_raised o flag t (address_value here p a) d r (address_small s here there two p a is.defined_address) group)

pub plain_word_there : (s : Setting) → IsSound s → (here there : Whole) → Twice s here there → (p k : ℕ) (a : Address)
    (tag decrement : List Signed) → IsPlaced s pze a tag decrement k
    → plain_word there (s.base + p) (Some (placed a tag decrement))
    ≡ raised (plain_word here p (Some (placed a tag decrement))) (raised_by s.base s.entries s.externs k)
plain_word_there s h here there two p k a tag decrement is =
    let t : ℕ = or_zero (value_of here.names p tag) in
    let d : ℕ = or_zero (value_of here.names p decrement) in
    let r : ℕ = raised_by s.base s.entries s.externs k in
    ap (λ (n : ℕ). or_zero (value_of there.names (s.base + p) decrement) * 2 ^ 18 + n * 2 ^ 15 + address_value there (s.base + p) a)
    (part_there s h here there two p tag is.short_tag is.defined_tag is.light_tag)
    ∙ ap (λ (n : ℕ). n * 2 ^ 18 + t * 2 ^ 15 + address_value there (s.base + p) a)
    (part_there s h here there two p decrement is.short_decrement is.defined_decrement is.light_decrement)
    ∙ ap (λ (n : ℕ). d * 2 ^ 18 + t * 2 ^ 15 + n) (address_there s h here there two p k a is.short_address is.defined_address is.kind)
    ∙ sym (plain_raised d t (address_value here p a) r (address_small s here there two p a is.defined_address))
