-- Kept blocks plus one for each owned block number at most the sum of the quotas.
use Rattle.std.specs.Prelude.{true, false, Option, None, Some, nat_eq, if◌then◌else◌, slice_set, sum, ◌-◌}
use Rattle.std.proofs.Common.{◌≡◌, ◌≢◌, inl, inr, ℕ, zero, suc, ◌+◌, ◌<◌, ◌≤◌, List, length, refl, sym, ◌∙◌, ap, arith, get_or-set_other, length-set}
use Rattle.std.proofs.lemmas.Bool.{cases_eq}
use Rattle.drum_slots.specs.Keys.{quota_of, key}
use Rattle.drum_slots.specs.Slots.{slot_of, count_kept}
use Rattle.drum_slots.proofs.Keys.{key_below}
use Rattle.drum_slots.proofs.Slotted.{kept_le, kept-set_some}
use Rattle.onion_swap.specs.Places.{owner_of, base_of}
use Rattle.plan_model.specs.Loads.{count_below}
use Rattle.image_map.specs.Images.{IsImage}
use Rattle.image_map.specs.Room.{is_owned, RoomForAll}
use Rattle.image_map.proofs.Moves.{eq_yes, eq_no, keys_apart}
use Rattle.image_map.proofs.AsWas.{owned_fits}

-- the table in which owned blocks have a place too
filled : (bases owners quotas : List ℕ) → List (Option ℕ) → ℕ → List (Option ℕ)
filled bases owners quotas slots zero = slots
filled bases owners quotas slots (suc b) = if nat_eq (owner_of owners b) 0 then filled bases owners quotas slots b
    else slice_set (filled bases owners quotas slots b) (key quotas (owner_of owners b) (b - base_of bases (owner_of owners b))) (Some 0)

filled_none : (bases owners quotas : List ℕ) (slots : List (Option ℕ)) (b : ℕ) → owner_of owners b ≡ 0 → filled bases owners quotas slots (suc b) ≡ filled bases owners quotas slots b
unfolding filled
filled_none bases owners quotas slots b none = rw (eq_yes _ _ none) refl

filled_some : (bases owners quotas : List ℕ) (slots : List (Option ℕ)) (b : ℕ) → owner_of owners b ≢ 0
    → filled bases owners quotas slots (suc b) ≡ slice_set (filled bases owners quotas slots b) (key quotas (owner_of owners b) (b - base_of bases (owner_of owners b))) (Some 0)
unfolding filled
filled_some bases owners quotas slots b some = rw (eq_no _ _ some) refl

filled_zero : (bases owners quotas : List ℕ) (slots : List (Option ℕ)) → filled bases owners quotas slots 0 ≡ slots
unfolding filled
filled_zero bases owners quotas slots = refl

filled_length : (bases owners quotas : List ℕ) (slots : List (Option ℕ)) (n : ℕ) → length (filled bases owners quotas slots n) ≡ length slots
filled_length bases owners quotas slots zero = ap (λ (l : List (Option ℕ)). length l) (filled_zero bases owners quotas slots)
filled_length bases owners quotas slots (suc b) = elim (cases_eq (owner_of owners b) 0) [
  | inl none ↦ ap (λ (l : List (Option ℕ)). length l) (filled_none bases owners quotas slots b none) ∙ filled_length bases owners quotas slots b
  | inr some ↦ ap (λ (l : List (Option ℕ)). length l) (filled_some bases owners quotas slots b some)
      ∙ length-set (filled bases owners quotas slots b) (key quotas (owner_of owners b) (b - base_of bases (owner_of owners b))) (Some 0) ∙ filled_length bases owners quotas slots b
]

filled_later : (bases owners quotas sizes : List ℕ) (slots : List (Option ℕ)) (n v c : ℕ) → IsImage bases owners slots quotas sizes → n ≤ base_of bases v + c → c < quota_of quotas v
    → slot_of (filled bases owners quotas slots n) (key quotas v c) ≡ slot_of slots (key quotas v c)
filled_later bases owners quotas sizes slots zero v c i above fits = ap (λ (l : List (Option ℕ)). slot_of l (key quotas v c)) (filled_zero bases owners quotas slots)
filled_later bases owners quotas sizes slots (suc b) v c i above fits =
    let rest = filled_later bases owners quotas sizes slots b v c i (omega arith) fits in
    elim (cases_eq (owner_of owners b) 0) [
      | inl none ↦ ap (λ (l : List (Option ℕ)). slot_of l (key quotas v c)) (filled_none bases owners quotas slots b none) ∙ rest
      | inr some ↦
          let at = owned_fits bases owners slots quotas sizes b i some in
          ap (λ (l : List (Option ℕ)). slot_of l (key quotas v c)) (filled_some bases owners quotas slots b some)
          ∙ get_or-set_other (filled bases owners quotas slots b) (key quotas (owner_of owners b) (b - base_of bases (owner_of owners b))) (key quotas v c) (Some 0) None
          (keys_apart quotas bases v (owner_of owners b) c (b - base_of bases (owner_of owners b)) fits at.1 (away (owner_of owners b) at.0))
          ∙ rest
    ]
  where
    away : (w : ℕ) → base_of bases w ≤ b → base_of bases v + c ≢ base_of bases w + (b - base_of bases w)
    away w low e = absurd (omega arith)

filled_count : (bases owners quotas sizes : List ℕ) (slots : List (Option ℕ)) (n : ℕ) → IsImage bases owners slots quotas sizes → length slots ≡ sum quotas
    → count_kept (filled bases owners quotas slots n) ≡ count_kept slots + count_below n (is_owned owners)
filled_count bases owners quotas sizes slots zero i places = ap count_kept (filled_zero bases owners quotas slots) ∙ omega arith
filled_count bases owners quotas sizes slots (suc b) i places =
    let rest = filled_count bases owners quotas sizes slots b i places in
    elim (cases_eq (owner_of owners b) 0) [
      | inl none ↦
          let t : is_owned owners b ≡ false = rw (eq_yes _ _ none) refl in
          let e : count_below (suc b) (is_owned owners) ≡ count_below b (is_owned owners) + 0 = λ j. count_below b (is_owned owners) + (if t j then 1 else 0) in
          ap count_kept (filled_none bases owners quotas slots b none) ∙ rest ∙ omega arith
      | inr some ↦
          let t : is_owned owners b ≡ true = rw (eq_no _ _ some) refl in
          let e : count_below (suc b) (is_owned owners) ≡ count_below b (is_owned owners) + 1 = λ j. count_below b (is_owned owners) + (if t j then 1 else 0) in
          let at = owned_fits bases owners slots quotas sizes b i some in
          let low : base_of bases (owner_of owners b) ≤ b = at.0 in
          let there : base_of bases (owner_of owners b) + (b - base_of bases (owner_of owners b)) ≡ b = omega arith in
          let mine : owner_of owners (base_of bases (owner_of owners b) + (b - base_of bases (owner_of owners b))) ≡ owner_of owners b = ap (λ (q : ℕ). owner_of owners q) there in
          let one : 1 ≤ owner_of owners b = grind arith in
          let empty = filled_later bases owners quotas sizes slots b (owner_of owners b) (b - base_of bases (owner_of owners b)) i (omega arith) at.1 ∙ i.apart (owner_of owners b) (b - base_of bases (owner_of owners b)) one mine in
          let place : key quotas (owner_of owners b) (b - base_of bases (owner_of owners b)) < length (filled bases owners quotas slots b) = omega (arith, key_below quotas (owner_of owners b) (b - base_of bases (owner_of owners b)) at.1, filled_length bases owners quotas slots b) in
          let more = kept-set_some (filled bases owners quotas slots b) (key quotas (owner_of owners b) (b - base_of bases (owner_of owners b))) 0 place empty in
          ap count_kept (filled_some bases owners quotas slots b some) ∙ more ∙ omega (arith, rest, e)
    ]

pub room_for_all : RoomForAll
room_for_all bases owners quotas sizes slots free image kept places =
    let all : count_kept slots + count_below 128 (is_owned owners) ≤ sum quotas
    = omega (arith, sym (filled_count bases owners quotas sizes slots 128 image places), kept_le (filled bases owners quotas slots 128), filled_length bases owners quotas slots 128) in
    let records : sum quotas ≤ length free = omega (arith, places, kept.room) in
    (all, records)
