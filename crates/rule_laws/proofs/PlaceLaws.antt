-- Places by the last ORG and the sizes since.
use Rattle.std.proofs.Common.{◌≡◌, ℕ, ◌+◌, Bool, true, false, nat_eq, nat_le, if◌then◌else◌, List, [], ◌∷◌, ◌++◌, Option, Some, None, refl, sym, ap, subst, ◌∙◌, arith, eqb-true, eq-eqb, append_assoc, append-nil, zero-add}
use Rattle.fap_model.specs.Cards.{is_comment, operation_of}
use Rattle.fap_model.specs.declared.types.Operation.{Operation}
use Rattle.fap_model.specs.declared.types.Operation.TheVariants.{Org as org}
use Rattle.fap_model.specs.Statements.{operation_named, field_for}
use Rattle.fap_model.specs.Places.{Known, nothing_known, known_with, known_behind, known_after, said, early_fault, next_place, count_of, max_place}
use Rattle.fap_model.specs.Decks.{operation_in, size_by}
use Rattle.rule_laws.specs.Cards.{known, IsOrigin, NoOrigin, sizes, PlaceOfCard}

-- what cards come to behind others
pub known_append : (k : Known) (a b : List (List ℕ)) → known_after k (a ++ b) ≡ known_after (known_after k a) b
known_append k [] b = refl
known_append k (card ∷ a) b = known_append (known_behind k card) a b

-- one card more
pub known_push : (before : List (List ℕ)) (card : List ℕ)
    → known (before ++ card ∷ []) ≡ known_behind (known before) card
known_push before card = known_append nothing_known before (card ∷ [])

-- the place behind a card
abbrev next_by : Option Operation → Known → List ℕ → ℕ
next_by None k card = k.place
next_by (Some o) k card = next_place k o card

place_behind : (k : Known) (card : List ℕ) → (known_behind k card).place ≡ next_by (operation_in card) k card
place_behind k card = by_comment (is_comment card)
  where
    by_operation : (o : Option Operation) → (known_with k o card).place ≡ next_by o k card
    by_operation None = refl
    by_operation (Some o) = refl

    by_comment : (b : Bool)
        → (if b then k else known_with k (operation_named (operation_of card)) card).place
        ≡ next_by (if b then None else operation_named (operation_of card)) k card
    by_comment true = refl
    by_comment false = by_operation (operation_named (operation_of card))

-- an ORG has no size
abbrev either_zero : Bool → ℕ
either_zero b = if b then 0 else 0

no_size : (b : Bool) → either_zero b ≡ 0
no_size true = refl
no_size false = refl

plus_none : (p n : ℕ) → n ≡ 0 → p ≡ p + n
plus_none p n e = omega (arith, e)

add_up : (p q r s m n : ℕ) → p ≡ q → q ≡ r + n → r ≡ s + m → p ≡ s + (m + n)
add_up p q r s m n a b c = omega (arith, a, b, c)

next_of : (o : Option Operation) (k : Known) (card : List ℕ) → ((o ≡ Some org) × (early_fault k org card ≡ 0) → ⊥)
    → next_by o k card ≡ k.place + size_by o k card
next_of None k card h = plus_none k.place 0 refl
next_of (Some org) k card h = by_fault (nat_eq (early_fault k org card) 0) refl
  where
    by_fault : (b : Bool) → nat_eq (early_fault k org card) 0 ≡ b
        → (if b then said k (field_for org card) else k.place) ≡ k.place + size_by (Some org) k card
    by_fault true good = absurd (h (refl, eqb-true (early_fault k org card) 0 good))
    by_fault false bad = plus_none k.place (size_by (Some org) k card)
        (no_size (nat_le (k.place + count_of org k (field_for org card)) max_place))
next_of (Some _) k card h = refl

-- an ORG without a fault
next_origin : (o : Option Operation) (k : Known) (card : List ℕ) → o ≡ Some org → early_fault k org card ≡ 0
    → next_by o k card ≡ said k (field_for org card)
next_origin o k card is good =
    ap (λ (p : Option Operation). next_by p k card) is
    ∙ ap (λ (b : Bool). if b then said k (field_for org card) else k.place) (eq-eqb (early_fault k org card) 0 good)

-- cards behind others with no such ORG among them
none_first : (before cards : List (List ℕ)) (card : List ℕ) → NoOrigin before (card ∷ cards) → ¬ (IsOrigin before card)
none_first before cards card lacks =
    subst (λ (l : List (List ℕ)). ¬ (IsOrigin l card)) (append-nil before) (lacks [] cards card refl)

none_behind : (before cards : List (List ℕ)) (card : List ℕ) → NoOrigin before (card ∷ cards)
    → NoOrigin (before ++ card ∷ []) cards
none_behind before cards card lacks =
    λ front rest other e.
    subst (λ (l : List (List ℕ)). ¬ (IsOrigin l other)) (sym (append_assoc before (card ∷ []) front))
    (lacks (card ∷ front) rest other (ap (λ (l : List (List ℕ)). card ∷ l) e))

place_since : (before cards : List (List ℕ)) → NoOrigin before cards
    → (known (before ++ cards)).place ≡ (known before).place + sizes before cards
place_since before [] lacks = ap (λ (l : List (List ℕ)). (known l).place) (append-nil before)
    ∙ plus_none (known before).place 0 refl
place_since before (card ∷ cards) lacks =
    add_up (known (before ++ card ∷ cards)).place (known (before ++ card ∷ [] ++ cards)).place
    (known (before ++ card ∷ [])).place (known before).place
    (size_by (operation_in card) (known before) card) (sizes (before ++ card ∷ []) cards)
    (ap (λ (l : List (List ℕ)). (known l).place) (sym (append_assoc before (card ∷ []) cards)))
    (place_since (before ++ card ∷ []) cards (none_behind before cards card lacks))
    (ap (λ (k : Known). k.place) (known_push before card) ∙ place_behind (known before) card
    ∙ next_of (operation_in card) (known before) card (none_first before cards card lacks))

pub place_of_card : PlaceOfCard
place_of_card = record { since = since; first = first }
  where
    since :
        (before cards : List (List ℕ)) (card : List ℕ) → IsOrigin before card → NoOrigin (before ++ card ∷ []) cards
        → (known (before ++ card ∷ cards)).place
        ≡ said (known before) (field_for org card) + sizes (before ++ card ∷ []) cards
    since before cards card is lacks =
        let origin : (known (before ++ card ∷ [])).place ≡ said (known before) (field_for org card) =
        ap (λ (k : Known). k.place) (known_push before card) ∙ place_behind (known before) card
        ∙ next_origin (operation_in card) (known before) card is.0 is.1 in
        ap (λ (l : List (List ℕ)). (known l).place) (sym (append_assoc before (card ∷ []) cards))
        ∙ place_since (before ++ card ∷ []) cards lacks
        ∙ ap (λ (p : ℕ). p + sizes (before ++ card ∷ []) cards) origin

    first : (cards : List (List ℕ)) → NoOrigin [] cards → (known cards).place ≡ sizes [] cards
    first cards lacks = place_since [] cards lacks ∙ zero-add (sizes [] cards)
