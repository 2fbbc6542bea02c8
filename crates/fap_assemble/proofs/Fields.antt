-- What a field comes to is what the definition reads of it.
use Rattle.std.proofs.Common.{◌≡◌, ℕ, ◌<◌, ◌≤◌, Bool, true, false, List, [], ◌∷◌, length, get_or, drop, Option, Some, None, refl, nat_eq, nat_le, arith, if◌then◌else◌}
use Rattle.std.proofs.lemmas.Bool.Decides.{nat_tests}
use Rattle.std.specs.Option.{option_map, option_and_then}
use Rattle.fap_model.specs.Terms.{Signed, begins_literal, expression, literal_word}
use Rattle.fap_model.specs.Statements as says
use Rattle.fap_model.specs.Places.{value_of}
use Rattle.fap_assemble.specs.declared.field.Address.TheVariants.{Plain, Literal}
use Rattle.fap_assemble.specs.Fields.{address_said, said, fields_joined}

literal_by_case : (text : List ℕ) (b : ℕ) (c : Bool) → nat_eq b 61 ≡ c
    → says.literal_at (says.address_of (b ∷ text)) ≡ (if c then literal_word text else None)
literal_by_case text b true e = rw e (by (literal_word text))
  where
    by : (o : Option ℕ) → says.literal_at (option_map (λ w. says.literal w) o) ≡ o
    by None = refl
    by (Some w) = refl
literal_by_case text b false e = rw e (by (expression (b ∷ text)))
  where
    by : (o : Option (List Signed)) → says.literal_at (option_map (λ ts. says.plain ts) o) ≡ None
    by None = refl
    by (Some ts) = refl

pub literal_seen : (text : List ℕ) → says.literal_at (says.address_of text) ≡ (if begins_literal text then literal_word (drop 1 text) else None)
literal_seen [] = refl
literal_seen (b ∷ text) = literal_by_case text b (nat_eq b 61) refl

said_literal : (names : List (ℕ × ℕ)) (place : ℕ) (o : Option ℕ) → option_map (address_said names place) (option_map (λ w. says.literal w) o) ≡ option_map (λ w. Literal w) o
said_literal names place None = refl
said_literal names place (Some w) = refl

said_plain : (names : List (ℕ × ℕ)) (place : ℕ) (o : Option (List Signed))
    → option_map (address_said names place) (option_map (λ ts. says.plain ts) o) ≡ option_map (λ v. Plain v) (option_map (λ ts. value_of names place ts) o)
said_plain names place None = refl
said_plain names place (Some ts) = refl

address_case : (names : List (ℕ × ℕ)) (place : ℕ) (text : List ℕ) (b : ℕ) (c : Bool) → nat_eq b 61 ≡ c
    → option_map (address_said names place) (says.address_of (b ∷ text))
    ≡ (if c then option_map (λ w. Literal w) (literal_word text) else option_map (λ v. Plain v) (option_map (λ ts. value_of names place ts) (expression (b ∷ text))))
address_case names place text b true e = rw e (said_literal names place (literal_word text))
address_case names place text b false e = rw e (said_plain names place (expression (b ∷ text)))

pub address_seen : (names : List (ℕ × ℕ)) (place : ℕ) (text : List ℕ) → option_map (address_said names place) (says.address_of text)
    ≡ (if begins_literal text then option_map (λ w. Literal w) (literal_word (drop 1 text)) else option_map (λ v. Plain v) (option_map (λ ts. value_of names place ts) (expression text)))
address_seen names place [] = refl
address_seen names place (b ∷ text) = address_case names place text b (nat_eq b 61) refl

all_three : (names : List (ℕ × ℕ)) (place : ℕ) (a : Option says.Address) (t d : Option (List Signed))
    → option_map (said names place) (option_and_then (λ x. option_and_then (λ tag. option_map (λ decrement. says.placed x tag decrement) d) t) a)
    ≡ fields_joined (option_map (address_said names place) a) (option_map (λ ts. value_of names place ts) t) (option_map (λ ts. value_of names place ts) d)
all_three names place None t d = refl
all_three names place (Some a) None d = refl
all_three names place (Some a) (Some t) None = refl
all_three names place (Some a) (Some t) (Some d) = refl

pub joined_parts : (names : List (ℕ × ℕ)) (place most : ℕ) (items : List (List ℕ)) → length items ≤ most
    → option_map (said names place) (says.parts_of most items)
    ≡ fields_joined (option_map (address_said names place) (says.address_of (get_or items 0 []))) (option_map (λ ts. value_of names place ts) (expression (get_or items 1 [])))
    (option_map (λ ts. value_of names place ts) (expression (get_or items 2 [])))
joined_parts names place most items h =
    let few : nat_le (length items) most ≡ true = grind (arith, nat_tests) in
    rw few (all_three names place (says.address_of (get_or items 0 [])) (expression (get_or items 1 [])) (expression (get_or items 2 [])))

pub many_parts : (names : List (ℕ × ℕ)) (place most : ℕ) (items : List (List ℕ)) → most < length items → option_map (said names place) (says.parts_of most items) ≡ None
many_parts names place most items h =
    let many : nat_le (length items) most ≡ false = grind (arith, nat_tests) in
    rw many refl
