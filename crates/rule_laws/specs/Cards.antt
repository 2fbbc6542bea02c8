-- claim: the place of a card and the value of a symbol, by the cards before.
use Rattle.std.specs.Prelude.{◌≡◌, ℕ, ◌+◌, ◌%◌, ◌^◌, if◌then◌else◌, List, [], ◌∷◌, ◌++◌, Option, Some, None, All}
use Rattle.fap_model.specs.Cards.{is_comment, symbol_of}
use Rattle.fap_model.specs.declared.types.Operation.{Operation}
use Rattle.fap_model.specs.declared.types.Operation.TheVariants.{Org as org}
use Rattle.fap_model.specs.Statements.{field_for}
use Rattle.fap_model.specs.Places.{Known, nothing_known, known_after, value_in, said, early_fault, symbol_value}
use Rattle.fap_model.specs.Decks.{operation_in, size_by}

-- what cards come to
abbrev pub known : List (List ℕ) → Known
known cards = known_after nothing_known cards

-- a card behind others is an ORG that isn't at fault
abbrev pub IsOrigin : List (List ℕ) → List ℕ → Type 0
IsOrigin before card = (operation_in card ≡ Some org) × (early_fault (known before) org card ≡ 0)

-- none of the cards behind others is one
abbrev pub NoOrigin : (before cards : List (List ℕ)) → Type 0
NoOrigin before cards =
    (front rest : List (List ℕ)) (card : List ℕ) → cards ≡ front ++ card ∷ rest → ¬ (IsOrigin (before ++ front) card)

-- how many words the cards behind others take or reserve together
abbrev pub sizes : (before cards : List (List ℕ)) → ℕ
sizes before [] = 0
sizes before (card ∷ cards) = size_by (operation_in card) (known before) card + sizes (before ++ card ∷ []) cards

-- The place behind some cards is what the last ORG without a fault says, or 0 where there is none, and the sizes of the
-- cards since.
pub record PlaceOfCard : Type 0 where
  pub since :
      (before cards : List (List ℕ)) (card : List ℕ) → IsOrigin before card → NoOrigin (before ++ card ∷ []) cards
      → (known (before ++ card ∷ cards)).place
      ≡ said (known before) (field_for org card) + sizes (before ++ card ∷ []) cards
  pub first : (cards : List (List ℕ)) → NoOrigin [] cards → (known cards).place ≡ sizes [] cards

-- a card has a symbol, and isn't a comment
abbrev pub symbol_in : List ℕ → Option ℕ
symbol_in card = if is_comment card then None else symbol_of card

abbrev pub HasSymbol : ℕ → List ℕ → Type 0
HasSymbol name card = symbol_in card ≡ Some name

abbrev pub NoneHas : ℕ → List (List ℕ) → Type 0
NoneHas name cards = All (λ (card : List ℕ). ¬ (HasSymbol name card)) cards

-- the value that a card gives its symbol: its place modulo 2^15, or what an EQU says
abbrev pub value_by : Option Operation → Known → List ℕ → ℕ
value_by None k card = k.place % 2 ^ 15
value_by (Some o) k card = symbol_value k o card

-- a symbol's value is what the first card that has it gives, and it has none where no card has it
pub record ValueOfSymbol : Type 0 where
  pub first :
      (before after : List (List ℕ)) (card : List ℕ) (name : ℕ) → HasSymbol name card → NoneHas name before
      → value_in (known (before ++ card ∷ after)).symbols name ≡ Some (value_by (operation_in card) (known before) card)
  pub none : (cards : List (List ℕ)) (name : ℕ) → NoneHas name cards → value_in (known cards).symbols name ≡ None
