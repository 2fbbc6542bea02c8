-- Users' images: their words, and that their blocks stay whole.
use Rattle.std.specs.Prelude.{true, Option, None, Some}
use Rattle.std.specs.Option.{is_some}
use Rattle.std.proofs.Common.{◌≡◌, ◌≢◌, inl, inr, ℕ, ◌+◌, ◌*◌, ◌≤◌, List, length, take, drop, refl, sym, ◌∙◌, ap, subst, arith}
use Rattle.std.proofs.lemmas.Bool.{cases_eq, false≢true}
use Rattle.core_bank.specs.Bank.{block_at}
use Rattle.drum_slots.specs.declared.slots.Slots.{Slots}
use Rattle.onion_swap.specs.Places.{Layout, base_of}
use Rattle.plan_model.specs.Loads.{is_loaded}
use Rattle.image_map.specs.Blocks.{first}
use Rattle.image_map.specs.Windows.{window}
use Rattle.image_map.specs.Images.{size_of, image_in, where_told, resized}
use Rattle.image_map.specs.Places.{places_of}
use Rattle.image_map.proofs.Residents.{image_resident, image_stays, resident_of}
use Rattle.user_model.specs.Inner.{recut, zeros}
use Rattle.user_cores.specs.Words.{words_of, AreWhole}
use Rattle.user_cores.proofs.Blocks.{joined_first, joined_resized, joined_replaced, length-first, first_whole, resized_whole}

-- where the image of one user is whole, and those of the others stay, all are whole
whole_all : (user : ℕ) (new old : ℕ → Option (List (List ℕ))) → (1 ≤ user → AreWhole (new user)) → ((u : ℕ) → 1 ≤ u → u ≢ user → new u ≡ old u)
    → ((u : ℕ) → 1 ≤ u → AreWhole (old u)) → (u : ℕ) → 1 ≤ u → AreWhole (new u)
whole_all user new old mine others were u some = elim (cases_eq u user) [
  | inl me ↦ subst (λ (v : ℕ). AreWhole (new v)) (sym me) (mine (omega arith))
  | inr them ↦ subst AreWhole (sym (others u some them)) (were u some)
]

-- one user's image is cut or extended

whole_one : (n m : ℕ) (image : Option (List (List ℕ))) → AreWhole image → AreWhole (resized n m image)
whole_one n m None whole = whole
whole_one n m (Some blocks) whole = resized_whole n m blocks whole

pub whole_resized : (bank bank' : List ℕ) (contents contents' : Option (List (List ℕ))) (at at' : Layout) (s s' : Slots) (sizes sizes' : List ℕ) (user m : ℕ)
    → image_in bank' contents' at' s' sizes' user ≡ resized (size_of sizes user) m (image_in bank contents at s sizes user)
    → ((u : ℕ) → 1 ≤ u → u ≢ user → image_in bank' contents' at' s' sizes' u ≡ image_in bank contents at s sizes u)
    → ((u : ℕ) → 1 ≤ u → AreWhole (image_in bank contents at s sizes u)) → (u : ℕ) → 1 ≤ u → AreWhole (image_in bank' contents' at' s' sizes' u)
whole_resized bank bank' contents contents' at at' s s' sizes sizes' user m mine others were =
    let old = λ (u : ℕ). image_in bank contents at s sizes u in
    whole_all user (λ u. image_in bank' contents' at' s' sizes' u) old (λ some. subst AreWhole (sym mine) (whole_one (size_of sizes user) m (old user) (were user some))) others were

pub words_resized : (bank : List ℕ) (contents : Option (List (List ℕ))) (at : Layout) (s : Slots) (sizes : List ℕ) (u m : ℕ) (new : Option (List (List ℕ)))
    → new ≡ resized (size_of sizes u) m (image_in bank contents at s sizes u) → AreWhole (image_in bank contents at s sizes u) → is_some contents ≡ true
    → words_of new ≡ recut m (words_of (image_in bank contents at s sizes u))
words_resized bank None at s sizes u m new is whole told = absurd (false≢true told)
words_resized bank (Some contents) at s sizes u m new is whole told = ap words_of is ∙ joined_resized (size_of sizes u) m _ whole (length-first (size_of sizes u) _)

-- one user's image is cut to nothing and extended

pub whole_replaced : (bank bank' : List ℕ) (contents contents' : Option (List (List ℕ))) (at at' : Layout) (s s' : Slots) (sizes sizes' : List ℕ) (user m : ℕ)
    → image_in bank' contents' at' s' sizes' user ≡ resized 0 m (resized (size_of sizes user) 0 (image_in bank contents at s sizes user))
    → ((u : ℕ) → 1 ≤ u → u ≢ user → image_in bank' contents' at' s' sizes' u ≡ image_in bank contents at s sizes u)
    → ((u : ℕ) → 1 ≤ u → AreWhole (image_in bank contents at s sizes u)) → (u : ℕ) → 1 ≤ u → AreWhole (image_in bank' contents' at' s' sizes' u)
whole_replaced bank bank' contents contents' at at' s s' sizes sizes' user m mine others were =
    let old = λ (u : ℕ). image_in bank contents at s sizes u in
    whole_all user (λ u. image_in bank' contents' at' s' sizes' u) old (λ some. subst AreWhole (sym mine) (whole_one 0 m (resized (size_of sizes user) 0 (old user)) (whole_one (size_of sizes user) 0 (old user) (were user some)))) others were

pub words_replaced : (bank : List ℕ) (contents : Option (List (List ℕ))) (at : Layout) (s : Slots) (sizes : List ℕ) (u m : ℕ) (new : Option (List (List ℕ)))
    → new ≡ resized 0 m (resized (size_of sizes u) 0 (image_in bank contents at s sizes u)) → is_some contents ≡ true → words_of new ≡ zeros m
words_replaced bank None at s sizes u m new is told = absurd (false≢true told)
words_replaced bank (Some contents) at s sizes u m new is told = replaced (size_of sizes u) (image_in bank (Some contents) at s sizes u) refl is
  where
    replaced : (n : ℕ) (image : Option (List (List ℕ))) → is_some image ≡ true → new ≡ resized 0 m (resized n 0 image) → words_of new ≡ zeros m
    replaced n None tells e = absurd (false≢true tells)
    replaced n (Some blocks) tells e = ap words_of e ∙ joined_replaced n m blocks

-- a user whose blocks are all in core

pub words_resident : (bank : List ℕ) (contents : Option (List (List ℕ))) (at : Layout) (s : Slots) (sizes : List ℕ) (u : ℕ)
    → is_loaded (places_of at s) u (size_of sizes u) ≡ true → is_some contents ≡ true
    → words_of (image_in bank contents at s sizes u) ≡ window bank (base_of at.bases u) (size_of sizes u)
words_resident bank None at s sizes u is told = absurd (false≢true told)
words_resident bank (Some contents) at s sizes u is told =
    ap words_of (image_resident bank (Some contents) at s sizes u (resident_of at s (size_of sizes u) u is)) ∙ joined_first (base_of at.bases u) (size_of sizes u) bank

whole_told : (contents : Option (List (List ℕ))) (base n : ℕ) (bank : List ℕ) → length bank ≡ 32768 → base + n ≤ 128 → AreWhole (where_told contents (first n (λ b. block_at bank (base + b))))
whole_told None base n bank len most = tt
whole_told (Some contents) base n bank len most = first_whole base n bank len most

-- while it works in its blocks
pub whole_turned : (bank bank' : List ℕ) (contents : Option (List (List ℕ))) (at : Layout) (s : Slots) (sizes : List ℕ) (user : ℕ)
    → is_loaded (places_of at s) user (size_of sizes user) ≡ true → base_of at.bases user + size_of sizes user ≤ 128 → length bank' ≡ 32768
    → take (256 * base_of at.bases user) bank' ≡ take (256 * base_of at.bases user) bank
    → drop (256 * (base_of at.bases user + size_of sizes user)) bank' ≡ drop (256 * (base_of at.bases user + size_of sizes user)) bank
    → ((u : ℕ) → 1 ≤ u → AreWhole (image_in bank contents at s sizes u)) → (u : ℕ) → 1 ≤ u → AreWhole (image_in bank' contents at s sizes u)
whole_turned bank bank' contents at s sizes user is most len front same were =
    let mine = resident_of at s (size_of sizes user) user is in
    whole_all user (λ u. image_in bank' contents at s sizes u) (λ u. image_in bank contents at s sizes u)
    (λ some. subst AreWhole (sym (image_resident bank' contents at s sizes user mine)) (whole_told contents (base_of at.bases user) (size_of sizes user) bank' len most))
    (λ u some them. image_stays bank bank' contents at s sizes user u mine front same them)
    were

pub words_stay : (bank bank' : List ℕ) (contents : Option (List (List ℕ))) (at : Layout) (s : Slots) (sizes : List ℕ) (user u : ℕ)
    → is_loaded (places_of at s) user (size_of sizes user) ≡ true
    → take (256 * base_of at.bases user) bank' ≡ take (256 * base_of at.bases user) bank
    → drop (256 * (base_of at.bases user + size_of sizes user)) bank' ≡ drop (256 * (base_of at.bases user + size_of sizes user)) bank → u ≢ user
    → words_of (image_in bank' contents at s sizes u) ≡ words_of (image_in bank contents at s sizes u)
words_stay bank bank' contents at s sizes user u is front same them =
    ap words_of (image_stays bank bank' contents at s sizes user u (resident_of at s (size_of sizes user) user is) front same them)
