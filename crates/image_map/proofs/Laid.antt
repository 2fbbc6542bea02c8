-- What images keep holds in the middle of a load too, between its two parts.
use Rattle.std.specs.Prelude.{Bool, true, false, ◌&&◌, nat_lt, nat_le, slice_set, sum, ◌-◌}
use Rattle.std.proofs.Common.{◌≡◌, ◌≢◌, ◌⊎◌, inl, inr, ℕ, zero, suc, ◌+◌, ◌<◌, ◌≤◌, List, length, sym, ◌∙◌, subst, arith, get_or-set_same}
use Rattle.std.proofs.lemmas.Bool.{cases_eq}
use Rattle.drum_slots.specs.Slots.{first_free}
use Rattle.drum_slots.specs.declared.slots.Slots.{Slots}
use Rattle.onion_swap.specs.Places.{Layout, owner_of, base_of}
use Rattle.onion_swap.proofs.Owned.{none_past}
use Rattle.plan_model.specs.Loads.{Places, core_places, owned, stays, base_for, based, loaded}
use Rattle.plan_model.proofs.LoadLaws.{core_places_is, base_stays, based_stays, based_moves, loaded_based}
use Rattle.image_map.specs.Images.{size_of, IsImage, IsResident}
use Rattle.image_map.specs.Loads.{BlockMap, block_map_of, dumped, put_to, load_to, map_before, bases_before}
use Rattle.image_map.specs.Places.{is_kept, places_of}
use Rattle.image_map.proofs.Moves.{sound_moves, sound_settled}
use Rattle.image_map.proofs.Images.{moves_dump}
use Rattle.image_map.proofs.Put.{put_one_mine, put_one_other, put_others, put_mine}
use Rattle.image_map.proofs.Loaded.{places_put, places_brought}

-- the same owners, bases and slots
same_places : (at at' : Layout) (s s' : Slots) → s'.quotas ≡ s.quotas → at'.bases ≡ at.bases → block_map_of at'.owners s' ≡ block_map_of at.owners s → places_of at' s' ≡ places_of at s
unfolding places_of
same_places at at' s s' quotas bases held =
    λ j. let p : Places = record { owner = owner_of (held j).owners; base = base_of (bases j); kept = is_kept (held j).slots (quotas j).items } in p

-- a place was put
pub sound_dump : (bases sizes quotas : List ℕ) (h : BlockMap) (u q : ℕ) → IsImage bases h.owners h.slots quotas sizes → 1 ≤ u → q < 128 → owner_of h.owners q ≡ u
    → IsImage bases (dumped quotas bases h u q).owners (dumped quotas bases h u q).slots quotas sizes
sound_dump bases sizes quotas h u q i some inside mine =
    let at = i.owned u q some mine in
    let low : base_of bases u ≤ q = at.0 in
    let there : base_of bases u + (q - base_of bases u) ≡ q = omega arith in
    let m = moves_dump h.owners h.slots quotas bases u (q - base_of bases u) q (first_free h.free) there some (omega (arith, i.places)) mine in
    sound_moves _ _ _ _ quotas bases sizes u (q - base_of bases u) i m some (omega (arith, at.1))

sound_put : (bases sizes quotas : List ℕ) (h : BlockMap) (u n : ℕ) → IsImage bases h.owners h.slots quotas sizes → 1 ≤ u → n ≤ 128
    → IsImage bases (put_to quotas bases h u n).owners (put_to quotas bases h u n).slots quotas sizes
sound_put bases sizes quotas h u zero i some few = i
sound_put bases sizes quotas h u (suc n) i some few =
    let now = put_to quotas bases h u n in
    let rest = sound_put bases sizes quotas h u n i some (omega arith) in
    elim (cases_eq (owner_of now.owners n) u) [
      | inl mine ↦ subst (λ (k : BlockMap). IsImage bases k.owners k.slots quotas sizes) (sym (put_one_mine quotas bases now u n mine)) (sound_dump bases sizes quotas now u n rest some (omega arith) mine)
      | inr other ↦ subst (λ (k : BlockMap). IsImage bases k.owners k.slots quotas sizes) (sym (put_one_other quotas bases now u n other)) rest
    ]

-- the user owns no place behind that
pub none_put : (bases sizes quotas : List ℕ) (h : BlockMap) (u q : ℕ) → IsImage bases h.owners h.slots quotas sizes → 1 ≤ u → owner_of (put_to quotas bases h u core_places).owners q ≢ u
none_put bases sizes quotas h u q i some e = elim (cases_eq (owner_of h.owners q) u) [
  | inl mine ↦
      let gone = put_mine quotas bases h u core_places q (inside q mine) (within q mine) mine in
      absurd (omega arith)
  | inr other ↦ absurd (other (sym (put_others quotas bases h u core_places q other) ∙ e))
]
  where
    below_or : (b m : ℕ) → (b < m) ⊎ (m ≤ b)
    below_or b m = grind arith

    within : (r : ℕ) → owner_of h.owners r ≡ u → r < length h.owners
    within r mine = elim (below_or r (length h.owners)) [
      | inl below ↦ below
      | inr past ↦ let none : owner_of h.owners r ≡ 0 = none_past h.owners r past in absurd (omega arith)
    ]

    inside : (r : ℕ) → owner_of h.owners r ≡ u → r < core_places
    inside r mine = omega (arith, within r mine, i.places, core_places_is)

pub sound_laid : (bases sizes quotas : List ℕ) (h : BlockMap) (u base : ℕ) → IsImage bases h.owners h.slots quotas sizes → length h.slots ≡ sum quotas → 1 ≤ u → u < 31 → base < 128
    → IsImage (slice_set bases u base) (put_to quotas bases h u core_places).owners (put_to quotas bases h u core_places).slots quotas sizes
sound_laid bases sizes quotas h u base i places some number inside =
    sound_settled bases (put_to quotas bases h u core_places).owners (put_to quotas bases h u core_places).slots quotas sizes u base
    (sound_put bases sizes quotas h u core_places i some (omega (arith, core_places_is)))
    (λ q. none_put bases sizes quotas h u q i some) inside number

-- owners, bases and kept copies behind both parts of a load

pub places_loaded : (at mid new : Layout) (s t s' : Slots) (sizes : List ℕ) (u n : ℕ) (stay : Bool) → stays (places_of at s) u n ≡ stay
    → IsImage at.bases at.owners s.slots.items s.quotas.items sizes → IsImage mid.bases mid.owners t.slots.items t.quotas.items sizes
    → length s.slots.items ≡ sum s.quotas.items → length t.slots.items ≡ sum t.quotas.items → 1 ≤ u → u < 31
    → t.quotas ≡ s.quotas → s'.quotas ≡ t.quotas → mid.bases ≡ bases_before at.bases u stay (base_for (places_of at s) u n) → new.bases ≡ mid.bases
    → block_map_of mid.owners t ≡ map_before s.quotas.items at.bases (block_map_of at.owners s) u stay
    → block_map_of new.owners s' ≡ load_to t.quotas.items mid.bases (block_map_of mid.owners t) u n
    → IsResident new n u → n ≤ size_of sizes u
    → places_of new s' ≡ loaded (places_of at s) u n
places_loaded at mid new s t s' sizes u n stay is i j places slots some number one two at_base same held loads resident few =
    places_brought mid new t s' sizes u n j slots two same loads resident (omega (arith, j.fits u))
    ∙ sym (loaded_based (places_of at s) (places_of mid t) u n (sym (first stay is at_base held)))
  where
    first : (v : Bool) → stays (places_of at s) u n ≡ v → mid.bases ≡ bases_before at.bases u v (base_for (places_of at s) u n)
        → block_map_of mid.owners t ≡ map_before s.quotas.items at.bases (block_map_of at.owners s) u v → places_of mid t ≡ based (places_of at s) u n
    first true e b h = same_places at mid s t one b h ∙ sym (based_stays (places_of at s) u n e)
    first false e b h = places_put at mid s t sizes u (base_for (places_of at s) u n) i places some number one h b ∙ sym (based_moves (places_of at s) u n e)

-- the base between them
pub laid_base : (at : Layout) (s : Slots) (u n base : ℕ) (t : Bool) → t ≡ stays (places_of at s) u n → base ≡ base_for (places_of at s) u n → u < length at.bases
    → base_of (bases_before at.bases u t base) u ≡ base
unfolding places_of
laid_base at s u n base t is e inside = by_stay t is
  where
    by_stay : (v : Bool) → v ≡ stays (places_of at s) u n → base_of (bases_before at.bases u v base) u ≡ base
    by_stay true is = sym (base_stays (places_of at s) u n (sym is)) ∙ sym e
    by_stay false is = get_or-set_same at.bases u base 0 inside

pub stay_is : (at : Layout) (s : Slots) (u n : ℕ) (b : Bool) → b ≡ (nat_lt 0 (owned (owner_of at.owners) u) && nat_le (base_of at.bases u + n) 128) → b ≡ stays (places_of at s) u n
unfolding places_of
stay_is at s u n b is = is
