-- The kind of a field by what its expressions weigh is the definition's.
use Rattle.std.proofs.Common.{◌≡◌, ℕ, ◌<◌, ◌≤◌, Bool, true, false, List, [], ◌∷◌, length, get_or, drop, Option, Some, None, refl, sym, ap, ◌∙◌, nat_eq, nat_le, arith, if◌then◌else◌}
use Rattle.std.proofs.lemmas.Bool.Decides.{nat_tests}
use Rattle.std.specs.Option.{option_map, option_and_then}
use Rattle.fap_model.specs.Terms.{Signed, begins_literal, expression, literal_word, items_of, octal_number, decimal_word, all_words}
use Rattle.fap_model.specs.declared.types.Operation.{Operation}
use Rattle.fap_model.specs.declared.types.Form.TheVariants as form
use Rattle.fap_model.specs.Statements as says
use Rattle.link_model.specs.Weights.{address_kind, is_light, most_weight, kind_of}
use Rattle.fap_assemble.specs.declared.weigh.Heft.{Heft}
use Rattle.fap_assemble.specs.Weighing.{heft_of, is_light_heft, heft_kind}
use Rattle.fap_assemble.specs.FieldKinds.{joined_kind, value_heft}
use Rattle.fap_assemble.proofs.Weighing.{plain_kind_is, light_is, weight_is}

module _ (externs : List ℕ) (weights : List (ℕ × ℕ)) where
  pub light_seen : (most : ℕ) (e : Option (List Signed))
      → option_map (λ h. is_light_heft most h) (option_map (λ ts. heft_of externs weights ts) e) ≡ option_map (λ ts. is_light most externs weights ts) e
  light_seen most None = refl
  light_seen most (Some ts) = ap (λ (b : Bool). Some b) (light_is most externs weights ts)

  pub light_some : (most : ℕ) (e : Option (List Signed)) (h : Heft) → Some h ≡ option_map (λ ts. heft_of externs weights ts) e
      → Some (is_light_heft most h) ≡ option_map (λ ts. is_light most externs weights ts) e
  light_some most e h is = ap (λ (o : Option Heft). option_map (λ x. is_light_heft most x) o) is ∙ light_seen most e

  kind_plain : (e : Option (List Signed))
      → option_map (address_kind externs weights) (option_map (λ ts. says.plain ts) e) ≡ option_map (λ h. heft_kind h) (option_map (λ ts. heft_of externs weights ts) e)
  kind_plain None = refl
  kind_plain (Some ts) = ap (λ (k : Option ℕ). Some k) (sym (plain_kind_is externs weights ts))

  kind_literal : (o : Option ℕ) → option_map (address_kind externs weights) (option_map (λ w. says.literal w) o) ≡ option_map (λ w. Some 1) o
  kind_literal None = refl
  kind_literal (Some w) = refl

  address_case : (text : List ℕ) (b : ℕ) (c : Bool) → nat_eq b 61 ≡ c
      → option_map (address_kind externs weights) (says.address_of (b ∷ text))
      ≡ (if c then option_map (λ w. Some 1) (literal_word text) else option_map (λ h. heft_kind h) (option_map (λ ts. heft_of externs weights ts) (expression (b ∷ text))))
  address_case text b true e = rw e (kind_literal (literal_word text))
  address_case text b false e = rw e (kind_plain (expression (b ∷ text)))

  pub address_kind_seen : (text : List ℕ) → option_map (address_kind externs weights) (says.address_of text)
      ≡ (if begins_literal text then option_map (λ w. Some 1) (literal_word (drop 1 text)) else option_map (λ h. heft_kind h) (option_map (λ ts. heft_of externs weights ts) (expression text)))
  address_kind_seen [] = kind_plain (Some [])
  address_kind_seen (b ∷ text) = address_case text b (nat_eq b 61) refl

  pub address_some : (text : List ℕ) (h : Heft) → begins_literal text ≡ false → Some h ≡ option_map (λ ts. heft_of externs weights ts) (expression text)
      → Some (heft_kind h) ≡ option_map (address_kind externs weights) (says.address_of text)
  address_some text h b is =
      ap (λ (o : Option Heft). option_map (λ x. heft_kind x) o) is
      ∙ sym (address_kind_seen text ∙ ap (λ (c : Bool). if c then option_map (λ w. Some 1) (literal_word (drop 1 text)) else option_map (λ x. heft_kind x) (option_map (λ ts. heft_of externs weights ts) (expression text))) b)

  all_three : (o : Operation) (a : Option says.Address) (t d : Option (List Signed))
      → kind_of o externs weights (option_and_then (λ x. option_and_then (λ tag. option_map (λ decrement. says.placed x tag decrement) d) t) a)
      ≡ joined_kind (option_map (address_kind externs weights) a) (option_map (λ ts. is_light 0 externs weights ts) t) (option_map (λ ts. is_light 0 externs weights ts) d)
  all_three o None t d = refl
  all_three o (Some a) None d = refl
  all_three o (Some a) (Some t) None = refl
  all_three o (Some a) (Some t) (Some d) = refl

  pub joined_kinds : (o : Operation) (most : ℕ) (items : List (List ℕ)) → length items ≤ most
      → kind_of o externs weights (says.parts_of most items)
      ≡ joined_kind (option_map (address_kind externs weights) (says.address_of (get_or items 0 []))) (option_map (λ ts. is_light 0 externs weights ts) (expression (get_or items 1 [])))
      (option_map (λ ts. is_light 0 externs weights ts) (expression (get_or items 2 [])))
  joined_kinds o most items h =
      let few : nat_le (length items) most ≡ true = grind (arith, nat_tests) in
      rw few (all_three o (says.address_of (get_or items 0 [])) (expression (get_or items 1 [])) (expression (get_or items 2 [])))

  pub joined_fields : (o : Operation) (most : ℕ) (items : List (List ℕ)) (a : Option (Option ℕ)) (t d : Option Bool) (x y z : List ℕ) → length items ≤ most
      → x ≡ get_or items 0 [] → y ≡ get_or items 1 [] → z ≡ get_or items 2 []
      → a ≡ option_map (address_kind externs weights) (says.address_of x) → t ≡ option_map (λ ts. is_light 0 externs weights ts) (expression y)
      → d ≡ option_map (λ ts. is_light 0 externs weights ts) (expression z) → joined_kind a t d ≡ kind_of o externs weights (says.parts_of most items)
  joined_fields o most items a t d x y z h xs ys zs ea et ed = rw (ea, et, ed, xs, ys, zs) (sym (joined_kinds o most items h))

  pub many_kinds : (o : Operation) (most : ℕ) (items : List (List ℕ)) → most < length items → kind_of o externs weights (says.parts_of most items) ≡ Some 0
  many_kinds o most items h =
      let many : nat_le (length items) most ≡ false = grind (arith, nat_tests) in
      rw many refl

  pub value_kind_seen : (o : Operation) (e : Option (List Signed))
      → kind_of o externs weights (option_map (λ ts. says.value ts) e) ≡ value_heft o (option_map (λ ts. heft_of externs weights ts) e)
  value_kind_seen o None = refl
  value_kind_seen o (Some ts) = rw (light_is (most_weight o) externs weights ts, weight_is externs weights ts) refl

  -- the kinds of other forms

  half_of : (o : Operation) (f : Option ℕ) → Some 0 ≡ kind_of o externs weights (option_map (λ n. says.half n) f)
  half_of o None = refl
  half_of o (Some n) = refl

  words_of : (o : Operation) (f : Option (List ℕ)) → Some 0 ≡ kind_of o externs weights (option_map (λ ws. says.words ws) f)
  words_of o None = refl
  words_of o (Some ws) = refl

  pub half_kind : (o : Operation) (field card : List ℕ) → Some 0 ≡ kind_of o externs weights (says.field_by form.OctalHalf field card)
  half_kind o field card = half_of o (octal_number 6 field)

  pub empty_kind : (o : Operation) (field card : List ℕ) → Some 0 ≡ kind_of o externs weights (says.field_by form.Empty field card)
  empty_kind o field card = by (nat_eq (length field) 0)
    where
      by : (b : Bool) → Some 0 ≡ kind_of o externs weights (if b then Some says.nothing else None)
      by true = refl
      by false = refl

  pub decimals_kind : (o : Operation) (field card : List ℕ) → Some 0 ≡ kind_of o externs weights (says.field_by form.Decimals field card)
  decimals_kind o field card = words_of o (all_words decimal_word (items_of field))

  pub octals_kind : (o : Operation) (field card : List ℕ) → Some 0 ≡ kind_of o externs weights (says.field_by form.Octals field card)
  octals_kind o field card = words_of o (all_words (octal_number 12) (items_of field))

  pub characters_kind : (o : Operation) (field card : List ℕ) → Some 0 ≡ kind_of o externs weights (says.field_by form.Characters field card)
  characters_kind o field card = words_of o (says.text_words card)
