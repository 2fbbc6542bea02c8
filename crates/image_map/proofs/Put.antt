-- Owners and slots in a load's first part: what a user has in core goes to the drum.
use Rattle.std.specs.Prelude.{None, Some, true, ◌-◌, slice_set}
use Rattle.std.proofs.Common.{◌≡◌, ◌≢◌, ◌⊎◌, inl, inr, ℕ, zero, suc, ◌+◌, ◌<◌, ◌≤◌, List, length, refl, sym, ◌∙◌, ap, subst, arith, get_or-set_same, get_or-set_other, length-set}
use Rattle.std.proofs.lemmas.Bool.{cases_eq}
use Rattle.drum_slots.specs.Keys.{quota_of, key}
use Rattle.drum_slots.specs.Slots.{slot_of, first_free}
use Rattle.drum_slots.proofs.Keys.{key_other_user}
use Rattle.onion_swap.specs.Places.{owner_of, base_of}
use Rattle.image_map.specs.Images.{IsImage}
use Rattle.image_map.specs.Loads.{BlockMap, dumped, put_one, put_to}
use Rattle.image_map.specs.Places.{is_some}
use Rattle.image_map.proofs.Moves.{eq_yes, eq_no, keys_apart}
use Rattle.image_map.proofs.AsWas.{owned_fits}

pub put_one_mine : (quotas bases : List ℕ) (h : BlockMap) (u q : ℕ) → owner_of h.owners q ≡ u → put_one quotas bases h u q ≡ dumped quotas bases h u q
put_one_mine quotas bases h u q is = rw (eq_yes _ _ is) refl

pub put_one_other : (quotas bases : List ℕ) (h : BlockMap) (u q : ℕ) → owner_of h.owners q ≢ u → put_one quotas bases h u q ≡ h
put_one_other quotas bases h u q is = rw (eq_no _ _ is) refl

-- there stay as many owners and slots
pub put_lengths : (quotas bases : List ℕ) (h : BlockMap) (u n : ℕ)
    → (length (put_to quotas bases h u n).owners ≡ length h.owners) × (length (put_to quotas bases h u n).slots ≡ length h.slots)
put_lengths quotas bases h u zero = (refl, refl)
put_lengths quotas bases h u (suc q) =
    let now = put_to quotas bases h u q in
    let rest = put_lengths quotas bases h u q in
    elim (cases_eq (owner_of now.owners q) u) [
      | inl mine ↦ let e = put_one_mine quotas bases now u q mine in (
        ap (λ (i : BlockMap). length i.owners) e ∙ length-set now.owners q 0 ∙ rest.0,
        ap (λ (i : BlockMap). length i.slots) e ∙ length-set now.slots (key quotas u (q - base_of bases u)) (Some (first_free now.free)) ∙ rest.1,
      )
      | inr other ↦ let e = put_one_other quotas bases now u q other in (ap (λ (i : BlockMap). length i.owners) e ∙ rest.0, ap (λ (i : BlockMap). length i.slots) e ∙ rest.1)
    ]

-- owners

put_away : (quotas bases : List ℕ) (h : BlockMap) (u q r : ℕ) → r ≢ q → owner_of (put_one quotas bases h u q).owners r ≡ owner_of h.owners r
put_away quotas bases h u q r away = elim (cases_eq (owner_of h.owners q) u) [
  | inl mine ↦ ap (λ (i : BlockMap). owner_of i.owners r) (put_one_mine quotas bases h u q mine) ∙ get_or-set_other h.owners q r 0 0 away
  | inr other ↦ ap (λ (i : BlockMap). owner_of i.owners r) (put_one_other quotas bases h u q other)
]

pub put_above : (quotas bases : List ℕ) (h : BlockMap) (u n q : ℕ) → n ≤ q → owner_of (put_to quotas bases h u n).owners q ≡ owner_of h.owners q
put_above quotas bases h u zero q above = refl
put_above quotas bases h u (suc n) q above =
    let away : q ≢ n = λ e. absurd (omega arith) in
    put_away quotas bases (put_to quotas bases h u n) u n q away ∙ put_above quotas bases h u n q (omega arith)

-- other users' places stay
pub put_others : (quotas bases : List ℕ) (h : BlockMap) (u n q : ℕ) → owner_of h.owners q ≢ u → owner_of (put_to quotas bases h u n).owners q ≡ owner_of h.owners q
put_others quotas bases h u zero q other = refl
put_others quotas bases h u (suc n) q other =
    let now = put_to quotas bases h u n in
    let rest = put_others quotas bases h u n q other in
    elim (cases_eq q n) [
      | inl here ↦
          let at : owner_of now.owners n ≢ u = λ e. other (sym rest ∙ ap (λ (r : ℕ). owner_of now.owners r) here ∙ e) in
          ap (λ (i : BlockMap). owner_of i.owners q) (put_one_other quotas bases now u n at) ∙ rest
      | inr away ↦ put_away quotas bases now u n q away ∙ rest
    ]

-- the user's own have no owner
pub put_mine : (quotas bases : List ℕ) (h : BlockMap) (u n q : ℕ) → q < n → q < length h.owners → owner_of h.owners q ≡ u → owner_of (put_to quotas bases h u n).owners q ≡ 0
put_mine quotas bases h u zero q below inside mine = absurd (omega arith)
put_mine quotas bases h u (suc n) q below inside mine =
    let now = put_to quotas bases h u n in
    elim (cases_eq q n) [
      | inl here ↦
          let was : owner_of now.owners q ≡ u = put_above quotas bases h u n q (omega arith) ∙ mine in
          let at : owner_of now.owners n ≡ u = ap (λ (r : ℕ). owner_of now.owners r) (sym here) ∙ was in
          let long : n < length now.owners = omega (arith, (put_lengths quotas bases h u n).0) in
          ap (λ (i : BlockMap). owner_of i.owners q) (put_one_mine quotas bases now u n at)
          ∙ ap (λ (r : ℕ). owner_of (dumped quotas bases now u n).owners r) here
          ∙ get_or-set_same now.owners n 0 0 long
      | inr away ↦ put_away quotas bases now u n q away ∙ put_mine quotas bases h u n q (omega arith) inside mine
    ]

-- copies

-- those of blocks of other users, or that lie at other places, stay
pub put_slot_step : (quotas bases sizes : List ℕ) (h : BlockMap) (u n v c : ℕ) → IsImage bases h.owners h.slots quotas sizes → 1 ≤ u → c < quota_of quotas v → (v ≢ u) ⊎ (base_of bases v + c ≢ n)
    → slot_of (put_to quotas bases h u (suc n)).slots (key quotas v c) ≡ slot_of (put_to quotas bases h u n).slots (key quotas v c)
put_slot_step quotas bases sizes h u n v c i some fits either =
    let now = put_to quotas bases h u n in
    elim (cases_eq (owner_of now.owners n) u) [
      | inl mine ↦
          let was : owner_of h.owners n ≡ u = sym (put_above quotas bases h u n n (omega arith)) ∙ mine in
          let owned : owner_of h.owners n ≢ 0 = λ e. absurd (omega arith) in
          let Fits : ℕ → Type 0 = λ w. (base_of bases w ≤ n) × (n - base_of bases w < quota_of quotas w) in
          let at : Fits u = subst Fits was (owned_fits bases h.owners h.slots quotas sizes n i owned) in
          ap (λ (k : BlockMap). slot_of k.slots (key quotas v c)) (put_one_mine quotas bases now u n mine)
          ∙ get_or-set_other now.slots (key quotas u (n - base_of bases u)) (key quotas v c) (Some (first_free now.free)) None (apart at.0 at.1)
      | inr other ↦ ap (λ (k : BlockMap). slot_of k.slots (key quotas v c)) (put_one_other quotas bases now u n other)
    ]
  where
    apart : base_of bases u ≤ n → n - base_of bases u < quota_of quotas u → key quotas v c ≢ key quotas u (n - base_of bases u)
    apart low high =
        let there : base_of bases u + (n - base_of bases u) ≡ n = omega arith in
        elim either [
          | inl them ↦ key_other_user quotas v u c (n - base_of bases u) fits high them
          | inr away ↦ keys_apart quotas bases v u c (n - base_of bases u) fits high (λ e. away (e ∙ there))
        ]

pub put_slot_others : (quotas bases sizes : List ℕ) (h : BlockMap) (u n v c : ℕ) → IsImage bases h.owners h.slots quotas sizes → 1 ≤ u → c < quota_of quotas v
    → (v ≢ u) ⊎ (owner_of h.owners (base_of bases v + c) ≢ u)
    → slot_of (put_to quotas bases h u n).slots (key quotas v c) ≡ slot_of h.slots (key quotas v c)
put_slot_others quotas bases sizes h u zero v c i some fits either = refl
put_slot_others quotas bases sizes h u (suc n) v c i some fits either =
    let now = put_to quotas bases h u n in
    let rest = put_slot_others quotas bases sizes h u n v c i some fits either in
    elim (cases_eq (owner_of now.owners n) u) [
      | inl mine ↦
          let was : owner_of h.owners n ≡ u = sym (put_above quotas bases h u n n (omega arith)) ∙ mine in
          let away : (v ≢ u) ⊎ (base_of bases v + c ≢ n) = elim either [
            | inl them ↦ inl them
            | inr not_there ↦ inr (λ e. not_there (ap (λ (q : ℕ). owner_of h.owners q) e ∙ was))
          ] in
          put_slot_step quotas bases sizes h u n v c i some fits away ∙ rest
      | inr other ↦ ap (λ (k : BlockMap). slot_of k.slots (key quotas v c)) (put_one_other quotas bases now u n other) ∙ rest
    ]

-- those of the blocks that were in core are kept
pub put_slot_mine : (quotas bases sizes : List ℕ) (h : BlockMap) (u n c : ℕ) → IsImage bases h.owners h.slots quotas sizes → 1 ≤ u → c < quota_of quotas u → key quotas u c < length h.slots
    → base_of bases u + c < n → owner_of h.owners (base_of bases u + c) ≡ u
    → is_some (slot_of (put_to quotas bases h u n).slots (key quotas u c)) ≡ true
put_slot_mine quotas bases sizes h u zero c i some fits inside below mine = absurd (omega arith)
put_slot_mine quotas bases sizes h u (suc n) c i some fits inside below mine =
    let now = put_to quotas bases h u n in
    elim (cases_eq (base_of bases u + c) n) [
      | inl here ↦
          let was : owner_of now.owners (base_of bases u + c) ≡ u = put_above quotas bases h u n (base_of bases u + c) (omega arith) ∙ mine in
          let at : owner_of now.owners n ≡ u = ap (λ (r : ℕ). owner_of now.owners r) (sym here) ∙ was in
          let block : n - base_of bases u ≡ c = omega arith in
          let long : key quotas u c < length now.slots = omega (arith, (put_lengths quotas bases h u n).1) in
          ap (λ (k : BlockMap). is_some (slot_of k.slots (key quotas u c))) (put_one_mine quotas bases now u n at)
          ∙ ap (λ (b : ℕ). is_some (slot_of (slice_set now.slots (key quotas u b) (Some (first_free now.free))) (key quotas u c))) block
          ∙ ap is_some (get_or-set_same now.slots (key quotas u c) (Some (first_free now.free)) None long)
      | inr away ↦ ap is_some (put_slot_step quotas bases sizes h u n u c i some fits (inr away)) ∙ put_slot_mine quotas bases sizes h u n c i some fits inside (omega arith) mine
    ]
