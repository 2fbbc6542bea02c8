-- Owners and slots in the middle of a load's second part: the places that it hasn't reached are as they were, those behind it stay.
use Rattle.std.specs.Prelude.{Option, None, Some, ◌-◌}
use Rattle.std.proofs.Common.{◌≡◌, ◌≢◌, ◌⊎◌, inl, inr, ℕ, zero, suc, ◌+◌, ◌<◌, ◌≤◌, List, length, refl, sym, ◌∙◌, ap, subst, arith, get_or-set_other, length-set}
use Rattle.std.proofs.lemmas.Bool.{cases_eq}
use Rattle.drum_slots.specs.Keys.{quota_of, key}
use Rattle.drum_slots.specs.Slots.{slot_of, first_free}
use Rattle.image_map.specs.Images.{size_of, IsImage}
use Rattle.image_map.specs.Loads.{BlockMap, block_taken, emptied, load_one, load_to}
use Rattle.image_map.proofs.Moves.{eq_yes, eq_no, keys_apart}
use Rattle.onion_swap.specs.Places.{owner_of, base_of}
use Rattle.image_map.proofs.Calls.{emptied_none, emptied_some, load_one_other}

-- owners of the places that it doesn't reach, or not yet
pub owner_as_was : (quotas bases : List ℕ) (h : BlockMap) (u n q : ℕ) → (q < base_of bases u) ⊎ (base_of bases u + n ≤ q) → owner_of (load_to quotas bases h u n).owners q ≡ owner_of h.owners q
owner_as_was quotas bases h u zero q away = refl
owner_as_was quotas bases h u (suc n) q away =
    let other : q ≢ base_of bases u + n = λ e. elim away [ inl low ↦ absurd (omega arith) | inr high ↦ absurd (omega arith) ] in
    let before : (q < base_of bases u) ⊎ (base_of bases u + n ≤ q) = elim away [ inl low ↦ inl low | inr high ↦ inr (omega arith) ] in
    load_one_other quotas bases (load_to quotas bases h u n) u n q other ∙ owner_as_was quotas bases h u n q before

pub emptied_slot : (quotas bases : List ℕ) (h : BlockMap) (q k : ℕ) → (owner_of h.owners q ≡ 0) ⊎ (k ≢ key quotas (owner_of h.owners q) (q - base_of bases (owner_of h.owners q)))
    → slot_of (emptied quotas bases h q).slots k ≡ slot_of h.slots k
emptied_slot quotas bases h q k either = elim (cases_eq (owner_of h.owners q) 0) [
  | inl none ↦ ap (λ (i : BlockMap). slot_of i.slots k) (emptied_none quotas bases h q none)
  | inr some ↦ elim either [
    | inl none ↦ absurd (some none)
    | inr away ↦ ap (λ (i : BlockMap). slot_of i.slots k) (emptied_some quotas bases h q some)
        ∙ get_or-set_other h.slots (key quotas (owner_of h.owners q) (q - base_of bases (owner_of h.owners q))) k (Some (first_free h.free)) None away
  ]
]

pub taken_slot : (quotas bases : List ℕ) (h : BlockMap) (u b k : ℕ) (o : Option ℕ) → k ≢ key quotas u b → slot_of (block_taken quotas bases h u b o).slots k ≡ slot_of h.slots k
taken_slot quotas bases h u b k None away = refl
taken_slot quotas bases h u b k (Some r) away = get_or-set_other h.slots (key quotas u b) k None None away

pub load_slot : (quotas bases : List ℕ) (h : BlockMap) (u b k : ℕ) → k ≢ key quotas u b
    → (owner_of h.owners (base_of bases u + b) ≡ 0) ⊎ (k ≢ key quotas (owner_of h.owners (base_of bases u + b)) (base_of bases u + b - base_of bases (owner_of h.owners (base_of bases u + b))))
    → slot_of (load_one quotas bases h u b).slots k ≡ slot_of h.slots k
load_slot quotas bases h u b k away either = elim (cases_eq (owner_of h.owners (base_of bases u + b)) u) [
  | inl mine ↦ let e : load_one quotas bases h u b ≡ h = rw (eq_yes _ _ mine) refl in ap (λ (i : BlockMap). slot_of i.slots k) e
  | inr other ↦
      let o = slot_of (emptied quotas bases h (base_of bases u + b)).slots (key quotas u b) in
      let e : load_one quotas bases h u b ≡ block_taken quotas bases (emptied quotas bases h (base_of bases u + b)) u b o = rw (eq_no _ _ other) refl in
      ap (λ (i : BlockMap). slot_of i.slots k) e ∙ taken_slot quotas bases (emptied quotas bases h (base_of bases u + b)) u b k o away ∙ emptied_slot quotas bases h (base_of bases u + b) k either
]

-- what lies at a place is a block that its owner, if any, may have
pub owned_fits : (bases owners : List ℕ) (slots : List (Option ℕ)) (quotas sizes : List ℕ) (q : ℕ) → IsImage bases owners slots quotas sizes → owner_of owners q ≢ 0
    → (base_of bases (owner_of owners q) ≤ q) × (q - base_of bases (owner_of owners q) < quota_of quotas (owner_of owners q))
owned_fits bases owners slots quotas sizes q i some =
    let one : 1 ≤ owner_of owners q = grind arith in
    let at = i.owned (owner_of owners q) q one refl in
    let low : base_of bases (owner_of owners q) ≤ q = at.0 in
    let high : q < base_of bases (owner_of owners q) + size_of sizes (owner_of owners q) = at.1 in
    let most : size_of sizes (owner_of owners q) ≤ quota_of quotas (owner_of owners q) = i.fits (owner_of owners q) in
    (low, omega arith)

-- one step of a load leaves the copies of blocks that lie at other places
pub slot_step : (quotas bases sizes : List ℕ) (h : BlockMap) (u n v c : ℕ) → IsImage bases h.owners h.slots quotas sizes → suc n ≤ quota_of quotas u → base_of bases v + c ≢ base_of bases u + n → c < quota_of quotas v
    → slot_of (load_to quotas bases h u (suc n)).slots (key quotas v c) ≡ slot_of (load_to quotas bases h u n).slots (key quotas v c)
slot_step quotas bases sizes h u n v c i all away fits =
    let now = load_to quotas bases h u n in
    let same : owner_of now.owners (base_of bases u + n) ≡ owner_of h.owners (base_of bases u + n) = owner_as_was quotas bases h u n (base_of bases u + n) (inr (omega arith)) in
    let mine : n < quota_of quotas u = omega arith in
    let Fits : ℕ → Type 0 = λ w. (base_of bases w ≤ base_of bases u + n) × (base_of bases u + n - base_of bases w < quota_of quotas w) in
    let either : (owner_of now.owners (base_of bases u + n) ≡ 0)
    ⊎ (key quotas v c ≢ key quotas (owner_of now.owners (base_of bases u + n)) (base_of bases u + n - base_of bases (owner_of now.owners (base_of bases u + n)))) =
    elim (cases_eq (owner_of h.owners (base_of bases u + n)) 0) [
      | inl none ↦ inl (same ∙ none)
      | inr some ↦
          let theirs : Fits (owner_of now.owners (base_of bases u + n)) = subst Fits (sym same) (owned_fits bases h.owners h.slots quotas sizes (base_of bases u + n) i some) in
          inr (apart_from (owner_of now.owners (base_of bases u + n)) theirs.0 theirs.1)
    ] in
    load_slot quotas bases now u n (key quotas v c) (keys_apart quotas bases v u c n fits mine away) either
  where
    apart_from : (w : ℕ) → base_of bases w ≤ base_of bases u + n → base_of bases u + n - base_of bases w < quota_of quotas w → key quotas v c ≢ key quotas w (base_of bases u + n - base_of bases w)
    apart_from w low high =
        let there : base_of bases w + (base_of bases u + n - base_of bases w) ≡ base_of bases u + n = omega arith in
        keys_apart quotas bases v w c (base_of bases u + n - base_of bases w) fits high (λ e. away (e ∙ there))

-- copies of blocks that lie where it doesn't reach, or not yet
pub slot_as_was : (quotas bases sizes : List ℕ) (h : BlockMap) (u n v c : ℕ) → IsImage bases h.owners h.slots quotas sizes → n ≤ quota_of quotas u
    → (base_of bases v + c < base_of bases u) ⊎ (base_of bases u + n ≤ base_of bases v + c) → c < quota_of quotas v
    → slot_of (load_to quotas bases h u n).slots (key quotas v c) ≡ slot_of h.slots (key quotas v c)
slot_as_was quotas bases sizes h u zero v c i all away fits = refl
slot_as_was quotas bases sizes h u (suc n) v c i all away fits =
    let other : base_of bases v + c ≢ base_of bases u + n = λ e. elim away [ inl low ↦ absurd (omega arith) | inr high ↦ absurd (omega arith) ] in
    let before : (base_of bases v + c < base_of bases u) ⊎ (base_of bases u + n ≤ base_of bases v + c) = elim away [ inl low ↦ inl low | inr high ↦ inr (omega arith) ] in
    slot_step quotas bases sizes h u n v c i all other fits ∙ slot_as_was quotas bases sizes h u n v c i (omega arith) before fits

-- copies of blocks that lie behind it
pub slot_settled : (quotas bases sizes : List ℕ) (h : BlockMap) (u n v c b : ℕ) → IsImage bases h.owners h.slots quotas sizes → n ≤ quota_of quotas u → base_of bases v + c ≡ base_of bases u + b → b < n → c < quota_of quotas v
    → slot_of (load_to quotas bases h u n).slots (key quotas v c) ≡ slot_of (load_to quotas bases h u (suc b)).slots (key quotas v c)
slot_settled quotas bases sizes h u zero v c b i all at below fits = absurd (omega arith)
slot_settled quotas bases sizes h u (suc n) v c b i all at below fits = elim (cases_eq b n) [
  | inl here ↦ ap (λ (m : ℕ). slot_of (load_to quotas bases h u (suc m)).slots (key quotas v c)) (sym here)
  | inr other ↦
      let away : base_of bases v + c ≢ base_of bases u + n = λ e. absurd (omega arith) in
      slot_step quotas bases sizes h u n v c i all away fits ∙ slot_settled quotas bases sizes h u n v c b i (omega arith) at (omega arith) fits
]

-- there stay as many owners and slots
pub load_lengths : (quotas bases : List ℕ) (h : BlockMap) (u n : ℕ)
    → (length (load_to quotas bases h u n).owners ≡ length h.owners) × (length (load_to quotas bases h u n).slots ≡ length h.slots)
load_lengths quotas bases h u zero = (refl, refl)
load_lengths quotas bases h u (suc n) =
    let now = load_to quotas bases h u n in
    let rest = load_lengths quotas bases h u n in
    let one = one_lengths now n in
    (one.0 ∙ rest.0, one.1 ∙ rest.1)
  where
    emptied_lengths : (k : BlockMap) (q : ℕ) → (length (emptied quotas bases k q).owners ≡ length k.owners) × (length (emptied quotas bases k q).slots ≡ length k.slots)
    emptied_lengths k q = elim (cases_eq (owner_of k.owners q) 0) [
      | inl none ↦ let e = emptied_none quotas bases k q none in (ap (λ (i : BlockMap). length i.owners) e, ap (λ (i : BlockMap). length i.slots) e)
      | inr some ↦ let e = emptied_some quotas bases k q some in (
        ap (λ (i : BlockMap). length i.owners) e ∙ length-set k.owners q 0,
        ap (λ (i : BlockMap). length i.slots) e ∙ length-set k.slots (key quotas (owner_of k.owners q) (q - base_of bases (owner_of k.owners q))) (Some (first_free k.free)),
      )
    ]

    taken_lengths : (k : BlockMap) (b : ℕ) (o : Option ℕ) → (length (block_taken quotas bases k u b o).owners ≡ length k.owners) × (length (block_taken quotas bases k u b o).slots ≡ length k.slots)
    taken_lengths k b None = (length-set k.owners (base_of bases u + b) u, refl)
    taken_lengths k b (Some r) = (length-set k.owners (base_of bases u + b) u, length-set k.slots (key quotas u b) None)

    one_lengths : (k : BlockMap) (b : ℕ) → (length (load_one quotas bases k u b).owners ≡ length k.owners) × (length (load_one quotas bases k u b).slots ≡ length k.slots)
    one_lengths k b = elim (cases_eq (owner_of k.owners (base_of bases u + b)) u) [
      | inl mine ↦ let e : load_one quotas bases k u b ≡ k = rw (eq_yes _ _ mine) refl in (ap (λ (i : BlockMap). length i.owners) e, ap (λ (i : BlockMap). length i.slots) e)
      | inr other ↦
          let o = slot_of (emptied quotas bases k (base_of bases u + b)).slots (key quotas u b) in
          let e : load_one quotas bases k u b ≡ block_taken quotas bases (emptied quotas bases k (base_of bases u + b)) u b o = rw (eq_no _ _ other) refl in
          let t = taken_lengths (emptied quotas bases k (base_of bases u + b)) b o in
          let m = emptied_lengths k (base_of bases u + b) in
          (ap (λ (i : BlockMap). length i.owners) e ∙ t.0 ∙ m.0, ap (λ (i : BlockMap). length i.slots) e ∙ t.1 ∙ m.1)
    ]
