-- A user whose blocks are all in core.
use Rattle.std.specs.Prelude.{true, false, not, Option, None, Some, nat_eq, ◌-◌}
use Rattle.std.proofs.Common.{◌≡◌, ◌≢◌, ◌⊎◌, inl, inr, ℕ, zero, suc, ◌+◌, ◌*◌, ◌<◌, ◌≤◌, List, length, take, drop, refl, sym, ◌∙◌, ap, arith}
use Rattle.std.proofs.lemmas.Bool.{cases_eq, false≢true}
use Rattle.std.proofs.lemmas.List.{drop-drop, drop-take, take-take}
use Rattle.core_bank.specs.Bank.{block_at}
use Rattle.drum_slots.specs.declared.slots.Slots.{Slots}
use Rattle.onion_swap.specs.Places.{Layout, owner_of, base_of}
use Rattle.onion_swap.proofs.Owned.{none_past}
use Rattle.plan_model.specs.Loads.{is_loaded}
use Rattle.plan_model.proofs.Counts.{count_none, count_some}
use Rattle.image_map.specs.Blocks.{first}
use Rattle.image_map.specs.Images.{size_of, image_in, where_told, IsResident}
use Rattle.image_map.specs.Places.{places_of}
use Rattle.image_map.proofs.Moves.{eq_yes, eq_no, first_same}

-- the image of a resident user is what stands in core
pub image_resident : (bank : List ℕ) (contents : Option (List (List ℕ))) (at : Layout) (s : Slots) (sizes : List ℕ) (u : ℕ) → IsResident at (size_of sizes u) u
    → image_in bank contents at s sizes u ≡ where_told contents (first (size_of sizes u) (λ b. block_at bank (base_of at.bases u + b)))
image_resident bank None at s sizes u mine = refl
image_resident bank (Some contents) at s sizes u mine =
    ap (λ (l : List (List ℕ)). Some l) (first_same (size_of sizes u) _ _ (λ b below. rw (eq_yes _ _ (mine b below)) refl))

-- blocks from place m on are as they were where nothing of core changed from there on
blocks_behind : (bank bank' : List ℕ) (m q : ℕ) → drop (256 * m) bank' ≡ drop (256 * m) bank → m ≤ q → block_at bank' q ≡ block_at bank q
blocks_behind bank bank' m q same above =
    let e : 256 * q ≡ 256 * m + (256 * q - 256 * m) = omega arith in
    ap (λ (l : List ℕ). take (256 * q + 256 - 256 * q) l)
    (ap (λ (k : ℕ). drop k bank') e ∙ sym (drop-drop (256 * q - 256 * m) (256 * m) bank')
    ∙ ap (λ (l : List ℕ). drop (256 * q - 256 * m) l) same
    ∙ drop-drop (256 * q - 256 * m) (256 * m) bank ∙ ap (λ (k : ℕ). drop k bank) (sym e))

-- and those before place m where nothing changed up to there
blocks_before : (bank bank' : List ℕ) (m q : ℕ) → take (256 * m) bank' ≡ take (256 * m) bank → q < m → block_at bank' q ≡ block_at bank q
blocks_before bank bank' m q same below =
    let e : 256 * m ≡ 256 * q + (256 * m - 256 * q) = omega arith in
    sym (block_of bank') ∙ ap (λ (l : List ℕ). take (256 * q + 256 - 256 * q) (drop (256 * q) l)) (ap (λ (k : ℕ). take k bank') (sym e) ∙ same ∙ ap (λ (k : ℕ). take k bank) e) ∙ block_of bank
  where
    block_of : (l : List ℕ) → take (256 * q + 256 - 256 * q) (drop (256 * q) (take (256 * q + (256 * m - 256 * q)) l)) ≡ block_at l q
    block_of l =
        let size : 256 * q + 256 - 256 * q ≤ 256 * m - 256 * q = omega arith in
        ap (λ (k : List ℕ). take (256 * q + 256 - 256 * q) k) (drop-take (256 * q) (256 * m - 256 * q) l)
        ∙ take-take (256 * q + 256 - 256 * q) (256 * m - 256 * q) (drop (256 * q) l) size

-- while a resident user works in its blocks, the others' images stay
pub image_stays : (bank bank' : List ℕ) (contents : Option (List (List ℕ))) (at : Layout) (s : Slots) (sizes : List ℕ) (u v : ℕ) → IsResident at (size_of sizes u) u
    → take (256 * base_of at.bases u) bank' ≡ take (256 * base_of at.bases u) bank
    → drop (256 * (base_of at.bases u + size_of sizes u)) bank' ≡ drop (256 * (base_of at.bases u + size_of sizes u)) bank → v ≢ u
    → image_in bank' contents at s sizes v ≡ image_in bank contents at s sizes v
image_stays bank bank' None at s sizes u v mine front rest other = refl
image_stays bank bank' (Some contents) at s sizes u v mine front rest other =
    ap (λ (l : List (List ℕ)). Some l) (first_same (size_of sizes v) _ _ (λ b less. elim (cases_eq (owner_of at.owners (base_of at.bases v + b)) v) [
      | inl theirs ↦ rw (eq_yes _ _ theirs) (elim (below_or (base_of at.bases v + b) (base_of at.bases u)) [
        | inl low ↦ blocks_before bank bank' (base_of at.bases u) (base_of at.bases v + b) front low
        | inr over ↦ blocks_behind bank bank' (base_of at.bases u + size_of sizes u) (base_of at.bases v + b) rest (elim (below_or (base_of at.bases v + b) (base_of at.bases u + size_of sizes u)) [
          | inl inside ↦ absurd (other (sym theirs ∙ here (base_of at.bases v + b) over inside))
          | inr past ↦ past
        ])
      ])
      | inr none ↦ rw (eq_no _ _ none) refl
    ]))
  where
    below_or : (b m : ℕ) → (b < m) ⊎ (m ≤ b)
    below_or b m = grind arith

    here : (q : ℕ) → base_of at.bases u ≤ q → q < base_of at.bases u + size_of sizes u → owner_of at.owners q ≡ u
    here q low high =
        let e : base_of at.bases u + (q - base_of at.bases u) ≡ q = omega arith in
        ap (λ (r : ℕ). owner_of at.owners r) (sym e) ∙ mine (q - base_of at.bases u) (omega arith)

-- the two ways to say that a user's blocks are all in core
pub loaded_yes : (at : Layout) (s : Slots) (n u : ℕ) → IsResident at n u → is_loaded (places_of at s) u n ≡ true
unfolding places_of
loaded_yes at s n u mine =
    let e = count_none n (λ b. not (nat_eq (owner_of at.owners (base_of at.bases u + b)) u)) (λ b below. rw (eq_yes _ _ (mine b below)) refl) in
    eq_yes _ _ e

pub loaded_no : (at : Layout) (s : Slots) (n u b : ℕ) → b < n → owner_of at.owners (base_of at.bases u + b) ≢ u → is_loaded (places_of at s) u n ≡ false
unfolding places_of
loaded_no at s n u b below other =
    let some = count_some n (λ c. not (nat_eq (owner_of at.owners (base_of at.bases u + c)) u)) b below (rw (eq_no _ _ other) refl) in
    eq_no _ _ (not_zero _ some)
  where
    not_zero : (k : ℕ) → 1 ≤ k → k ≢ 0
    not_zero k some e = absurd (omega arith)

-- a resident user's blocks end within core
pub resident_fits : (at : Layout) (n u : ℕ) → 1 ≤ u → IsResident at n u → base_of at.bases u < 128 → length at.owners ≡ 128 → base_of at.bases u + n ≤ 128
resident_fits at zero u some mine low long = omega arith
resident_fits at (suc n) u some mine low long = elim (below_or (base_of at.bases u + n) 128) [
  | inl inside ↦ omega arith
  | inr past ↦
      let owned : owner_of at.owners (base_of at.bases u + n) ≡ u = mine n (omega arith) in
      let none : owner_of at.owners (base_of at.bases u + n) ≡ 0 = none_past at.owners (base_of at.bases u + n) (omega arith) in
      absurd (omega arith)
]
  where
    below_or : (b m : ℕ) → (b < m) ⊎ (m ≤ b)
    below_or b m = grind arith

pub resident_of : (at : Layout) (s : Slots) (n u : ℕ) → is_loaded (places_of at s) u n ≡ true → IsResident at n u
resident_of at s n u is b below = elim (cases_eq (owner_of at.owners (base_of at.bases u + b)) u) [
  | inl mine ↦ mine
  | inr other ↦ absurd (false≢true (sym (loaded_no at s n u b below other) ∙ is))
]

pub loaded_fits : (at : Layout) (s : Slots) (n u : ℕ) → 1 ≤ u → is_loaded (places_of at s) u n ≡ true → base_of at.bases u < 128 → length at.owners ≡ 128 → base_of at.bases u + n ≤ 128
loaded_fits at s n u some is low long = resident_fits at n u some (resident_of at s n u is) low long
