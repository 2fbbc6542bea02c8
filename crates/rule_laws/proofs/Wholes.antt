-- All cards of a module where it comes to lie.
use Rattle.std.proofs.Common.{◌≡◌, ℕ, zero, suc, ◌+◌, ◌≤◌, Bool, true, false, if◌then◌else◌, List, [], ◌∷◌, ◌++◌, length, refl, sym, ap, ◌∙◌, subst, arith, append_assoc, append-nil}
use Rattle.fap_model.specs.Cards.{is_comment}
use Rattle.fap_model.specs.Places.{Known, known_behind, known_after}
use Rattle.fap_model.specs.Decks.{Segment, operation_in, is_end, cards_before_end, fault_entry}
use Rattle.link_model.specs.Moves.{Moved, without_org, moved_size, moved_with, moved_behind, moved_after}
use Rattle.link_model.specs.ModuleCards.{Relocated, module_fault, module_faults_from}
use Rattle.rule_laws.proofs.Spreads.{Spread, spread_gap, spread_here, zeros}
use Rattle.rule_laws.proofs.Places.{Behind}
use Rattle.rule_laws.proofs.Cases.{CardCase, card_case}
use Rattle.rule_laws.proofs.Moves.{AreSmall, case_step}

-- cards without a fault
abbrev pub AllCases : Relocated → Moved → (before cards : List (List ℕ)) → Type 0
AllCases r m before [] = Unit {0}
AllCases r m before (card ∷ cards) = CardCase r m before card × AllCases r (moved_behind r.externs m card) (before ++ card ∷ []) cards

abbrev pub NotEnds : List (List ℕ) → Type 0
NotEnds [] = Unit {0}
NotEnds (card ∷ cards) = (is_end (operation_in card) ≡ false) × NotEnds cards

pub before_end : (cards : List (List ℕ)) → NotEnds (cards_before_end cards)
before_end [] = tt
before_end (card ∷ cards) = by_test (is_end (operation_in card)) refl (before_end cards)
  where
    by_test : (b : Bool) → is_end (operation_in card) ≡ b → NotEnds (cards_before_end cards) → NotEnds (if b then [] else card ∷ cards_before_end cards)
    by_test true e rest = tt
    by_test false e rest = (e, rest)

pub no_entry : (n f : ℕ) → fault_entry n f ≡ [] → f ≡ 0
no_entry n zero h = refl
no_entry n (suc f) h = cc

pub both_none : (xs ys : List (ℕ × ℕ)) → xs ++ ys ≡ [] → (xs ≡ []) × (ys ≡ [])
both_none [] ys h = (refl, h)
both_none (x ∷ xs) ys h = cc

-- each card of a list without faults is one of the cases, and the last has no fault
pub all_cases : (r : Relocated) (n : ℕ) (m : Moved) (before cards : List (List ℕ)) (last : List ℕ) → NotEnds cards
    → module_faults_from r n m before (cards ++ last ∷ []) ≡ []
    → AllCases r m before cards × (module_fault r (moved_after r.externs m cards) (before ++ cards) last ≡ 0)
all_cases r n m before [] last ends h =
    let here : module_fault r m before last ≡ 0 = no_entry n (module_fault r m before last) (both_none (fault_entry n (module_fault r m before last)) [] h).0 in
    (tt, ap (λ (l : List (List ℕ)). module_fault r m l last) (append-nil before) ∙ here)
all_cases r n m before (card ∷ cards) last ends h =
    let parts = both_none (fault_entry n (module_fault r m before card))
    (module_faults_from r (suc n) (moved_behind r.externs m card) (before ++ card ∷ []) (cards ++ last ∷ [])) h in
    let here : module_fault r m before card ≡ 0 = no_entry n (module_fault r m before card) parts.0 in
    let rest = all_cases r (suc n) (moved_behind r.externs m card) (before ++ card ∷ []) cards last ends.1 parts.1 in (
      (card_case r m before card ends.0 here, rest.0),
      ap (λ (l : List (List ℕ)). module_fault r (moved_after r.externs (moved_behind r.externs m card) cards) l last) (sym (append_assoc before (card ∷ []) cards)) ∙ rest.1,
    )

-- places only grow
grown : (p n : ℕ) → p ≤ p + n
grown p n = omega arith

pub behind_grows : (xs : List ℕ) (m : Moved) (card : List ℕ) → m.known.place ≤ (moved_behind xs m card).known.place
behind_grows xs m card = by_comment (is_comment card)
  where
    by_comment : (b : Bool) → m.known.place ≤ (if b then m else moved_with xs m (without_org (operation_in card)) card).known.place
    by_comment true = omega arith
    by_comment false = grown m.known.place (moved_size xs m (without_org (operation_in card)) card)

pub all_grow : (xs : List ℕ) (m : Moved) (cards : List (List ℕ)) → m.known.place ≤ (moved_after xs m cards).known.place
all_grow xs m [] = omega arith
all_grow xs m (card ∷ cards) =
    let one : m.known.place ≤ (moved_behind xs m card).known.place = behind_grows xs m card in
    let more : (moved_behind xs m card).known.place ≤ (moved_after xs (moved_behind xs m card) cards).known.place = all_grow xs (moved_behind xs m card) cards in
    omega (arith, one, more)

pub lower_bound : (b p q : ℕ) → p ≤ q → b + q ≤ 32768 → b + p ≤ 32768
lower_bound b p q h k = omega (arith, h, k)

-- what is known behind all
pub all_behind : (b : ℕ) (entries : List (ℕ × ℕ)) (r : Relocated) (m : Moved) (before cards : List (List ℕ)) (k : Known) → AreSmall entries → Behind b m k
    → AllCases r m before cards → b + (moved_after r.externs m cards).known.place ≤ 32768 → Behind b (moved_after r.externs m cards) (known_after k cards)
all_behind b entries r m before [] k small h cases bound = h
all_behind b entries r m before (card ∷ cards) k small h cases bound =
    let next : b + (moved_behind r.externs m card).known.place ≤ 32768 =
    lower_bound b (moved_behind r.externs m card).known.place (moved_after r.externs (moved_behind r.externs m card) cards).known.place
    (all_grow r.externs (moved_behind r.externs m card) cards) bound in
    all_behind b entries r (moved_behind r.externs m card) (before ++ card ∷ []) cards (known_behind k card) small
    (case_step b entries r m before card k small h cases.0 next) cases.1 bound

-- one card's words before the others'

abbrev one_segment : Known → List ℕ → Segment
one_segment k ws = record { first = k.place; words = ws }

pub spread_card : (at next : ℕ) (ws cells : List ℕ) (segments : List Segment) (rest : List ℕ) → cells ≡ ws → next ≡ at + length cells → Spread next segments rest
    → Spread at (record { first = at; words = ws } ∷ segments) (cells ++ rest)
spread_card at next ws cells segments rest e n h =
    let place : next ≡ at + length ws = n ∙ ap (λ (l : List ℕ). at + length l) e in
    subst (λ (l : List ℕ). Spread at (record { first = at; words = ws } ∷ segments) (l ++ rest)) (sym e)
    (spread_here at (record { first = at; words = ws }) segments rest refl (subst (λ (p : ℕ). Spread p segments rest) place h))

pub spread_reserve : (at next n : ℕ) (cells : List ℕ) (segments : List Segment) (rest : List ℕ) → cells ≡ zeros n → next ≡ at + n → Spread next segments rest
    → Spread at (record { first = at; words = [] } ∷ segments) (cells ++ rest)
spread_reserve at next n cells segments rest e p h =
    let none : at ≡ at + 0 = omega arith in
    let behind : Spread at segments (zeros n ++ rest) = spread_gap at n segments rest (subst (λ (q : ℕ). Spread q segments rest) p h) in
    subst (λ (l : List ℕ). Spread at (record { first = at; words = [] } ∷ segments) (l ++ rest)) (sym e)
    (spread_here at (record { first = at; words = [] }) segments (zeros n ++ rest) refl (subst (λ (q : ℕ). Spread q segments (zeros n ++ rest)) none behind))
