-- Images of no blocks.
use Rattle.std.specs.Prelude.{Option, None, Some, replicate, nat_lt}
use Rattle.std.proofs.Common.{◌≡◌, ℕ, ◌≤◌, Bool, true, false, ◌&&◌, List, [], length, refl, sym, ap, subst, ◌∙◌}
use Rattle.std.proofs.lemmas.List.Elements.{All-nil}
use Rattle.core_bank.specs.Bank.{block_at}
use Rattle.drum_slots.specs.declared.slots.Slots.{Slots}
use Rattle.drum_slots.specs.Slots.{slot_of}
use Rattle.drum_slots.specs.Keys.{key, quota_of}
use Rattle.drum_slots.specs.Kept.{copies}
use Rattle.plan_model.specs.Loads.{no_places}
use Rattle.onion_swap.specs.Places.{Layout, first_layout, owner_of, base_of}
use Rattle.image_map.specs.Images.{size_of, image_in, image_over}
use Rattle.image_map.specs.Places.{places_of, is_kept, is_some}
use Rattle.image_map.proofs.Moves.{none_in}
use Rattle.user_cores.specs.Words.{AreWhole, words_of}

none_whole : (blocks : ℕ → List ℕ) (bases owners : List ℕ) (all : Option (List (Option (List ℕ)))) (quotas : List ℕ) (u : ℕ) → AreWhole (image_over blocks bases owners all quotas 0 u)
none_whole blocks bases owners None quotas u = tt
none_whole blocks bases owners (Some all) quotas u = All-nil (λ (b : List ℕ). length b ≡ 256)

pub whole_at_first : (bank : List ℕ) (contents : Option (List (List ℕ))) (at : Layout) (s : Slots) (sizes : List ℕ) (n : ℕ) → sizes ≡ replicate n 0
    → (u : ℕ) → 1 ≤ u → AreWhole (image_in bank contents at s sizes u)
whole_at_first bank contents at s sizes n small u some =
    let size : size_of sizes u ≡ 0 = ap (λ (l : List ℕ). size_of l u) small ∙ none_in n u in
    subst (λ (k : ℕ). AreWhole (image_over (block_at bank) at.bases at.owners (copies contents s.slots.items) s.quotas.items k u)) (sym size)
    (none_whole (block_at bank) at.bases at.owners (copies contents s.slots.items) s.quotas.items u)

no_words : (blocks : ℕ → List ℕ) (bases owners : List ℕ) (all : Option (List (Option (List ℕ)))) (quotas : List ℕ) (u : ℕ) → words_of (image_over blocks bases owners all quotas 0 u) ≡ []
no_words blocks bases owners None quotas u = refl
no_words blocks bases owners (Some all) quotas u = refl

pub words_at_first : (bank : List ℕ) (contents : Option (List (List ℕ))) (at : Layout) (s : Slots) (sizes : List ℕ) (n : ℕ) → sizes ≡ replicate n 0
    → (u : ℕ) → 1 ≤ u → words_of (image_in bank contents at s sizes u) ≡ []
words_at_first bank contents at s sizes n small u some =
    let size : size_of sizes u ≡ 0 = ap (λ (l : List ℕ). size_of l u) small ∙ none_in n u in
    ap (λ (k : ℕ). words_of (image_over (block_at bank) at.bases at.owners (copies contents s.slots.items) s.quotas.items k u)) size
    ∙ no_words (block_at bank) at.bases at.owners (copies contents s.slots.items) s.quotas.items u

and_no : (b : Bool) → (b && false) ≡ false
and_no true = refl
and_no false = refl

pub places_at_first : (at : Layout) (s : Slots) → ((k : ℕ) → slot_of s.slots.items k ≡ None) → at ≡ first_layout → places_of at s ≡ no_places
unfolding places_of
places_at_first at s none is = λ j. record { owner = λ q. owner q j; base = λ u. base u j; kept = λ u b. never u b j }
  where
    owner : (q : ℕ) → owner_of at.owners q ≡ 0
    owner q = ap (λ (l : Layout). owner_of l.owners q) is ∙ none_in 128 q

    base : (u : ℕ) → base_of at.bases u ≡ 0
    base u = ap (λ (l : Layout). base_of l.bases u) is ∙ none_in 31 u

    never : (u b : ℕ) → is_kept s.slots.items s.quotas.items u b ≡ false
    never u b = ap (λ (o : Option ℕ). nat_lt b (quota_of s.quotas.items u) && is_some o) (none (key s.quotas.items u b)) ∙ and_no (nat_lt b (quota_of s.quotas.items u))
