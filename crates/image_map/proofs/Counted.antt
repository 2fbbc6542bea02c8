-- A load makes a write for each block that it dumps, and a read for each that it reads.
use Rattle.std.specs.Prelude.{Bool, true, false, ◌&&◌, not, Option, None, Some, nat_eq, nat_lt, if◌then◌else◌, ◌-◌, length, sum, slice_set}
use Rattle.std.proofs.Common.{◌≡◌, ◌≢◌, ◌⊎◌, inl, inr, ℕ, zero, suc, ◌+◌, ◌<◌, ◌≤◌, List, [], ◌∷◌, ◌++◌, refl, sym, ◌∙◌, ap, subst, arith, eq-eqb, get_or-set_same}
use Rattle.std.proofs.lemmas.Bool.{cases_eq}
use Rattle.std.proofs.lemmas.Bool.Decides.{nat_tests}
use Rattle.medium.specs.Medium.{Call, write_call}
use Rattle.drum_slots.specs.Keys.{quota_of, key}
use Rattle.drum_slots.specs.Slots.{slot_of, first_free}
use Rattle.drum_slots.proofs.Keys.{key_other_user}
use Rattle.onion_swap.specs.Places.{Layout, owner_of, base_of}
use Rattle.plan_model.specs.Loads.{Places, core_places, count_below, is_other, others_from, is_read, stays, base_for, put_out, dumps, reads}
use Rattle.plan_model.proofs.Counts.{count_same}
use Rattle.plan_model.proofs.LoadLaws.{base_stays, based_stays, based_moves, dumps_stays, dumps_moves, reads_based}
use Rattle.drum_slots.specs.declared.slots.Slots.{Slots}
use Rattle.image_map.specs.Images.{size_of, IsImage}
use Rattle.image_map.specs.Loads.{BlockMap, block_map_of, emptied, put_to, put_calls_one, put_calls_to, load_to, fetch_calls, dump_calls, calls_one, calls_to, map_before, bases_before, calls_before, count_writes, count_reads}
use Rattle.image_map.specs.Places.{is_some, is_kept, places_of}
use Rattle.image_map.proofs.Moves.{eq_yes, eq_no}
use Rattle.image_map.proofs.AsWas.{owner_as_was, owned_fits, emptied_slot, slot_as_was}
use Rattle.image_map.proofs.Put.{put_above}
use Rattle.image_map.proofs.Loaded.{put_owner, put_kept}
use Rattle.image_map.proofs.Laid.{sound_laid}

writes-append : (one two : List Call) → count_writes (one ++ two) ≡ count_writes one + count_writes two
writes-append [] two = omega arith
writes-append (c ∷ one) two = omega (arith, writes-append one two)

reads-append : (one two : List Call) → count_reads (one ++ two) ≡ count_reads one + count_reads two
reads-append [] two = omega arith
reads-append (c ∷ one) two = omega (arith, reads-append one two)

read_counts : (o : Option ℕ) (ws : List ℕ) → (count_writes (fetch_calls o ws) ≡ 0) × (count_reads (fetch_calls o ws) ≡ (if is_some o then 1 else 0))
read_counts None ws = (refl, refl)
read_counts (Some r) ws = (refl, refl)

dump_counts : (h : BlockMap) (b : ℕ) → (count_writes (dump_calls h b) ≡ (if nat_eq (owner_of h.owners b) 0 then 0 else 1)) × (count_reads (dump_calls h b) ≡ 0)
dump_counts h b = elim (cases_eq (owner_of h.owners b) 0) [
  | inl none ↦ rw (eq_yes _ _ none) (refl, refl)
  | inr some ↦ rw (eq_no _ _ some) (refl, refl)
]

-- the calls for one block that is not in core
one_counts : (quotas bases : List ℕ) (h : BlockMap) (u b : ℕ) (ws : List ℕ) (o : Option ℕ) → owner_of h.owners (base_of bases u + b) ≢ u → slot_of (emptied quotas bases h (base_of bases u + b)).slots (key quotas u b) ≡ o
    → (count_writes (calls_one quotas bases h u b ws) ≡ (if not (nat_eq (owner_of h.owners (base_of bases u + b)) 0) then 1 else 0)) × (count_reads (calls_one quotas bases h u b ws) ≡ (if is_some o then 1 else 0))
one_counts quotas bases h u b ws o other slot =
    let step = dump_calls h (base_of bases u + b) ++ fetch_calls (slot_of (emptied quotas bases h (base_of bases u + b)).slots (key quotas u b)) ws in
    let e : calls_one quotas bases h u b ws ≡ step = rw (eq_no _ _ other) refl in
    let d = dump_counts h (base_of bases u + b) in
    let r = read_counts (slot_of (emptied quotas bases h (base_of bases u + b)).slots (key quotas u b)) ws in
    let w : count_writes step ≡ count_writes (dump_calls h (base_of bases u + b)) + count_writes (fetch_calls (slot_of (emptied quotas bases h (base_of bases u + b)).slots (key quotas u b)) ws) = writes-append (dump_calls h (base_of bases u + b)) _ in
    let v : count_reads step ≡ count_reads (dump_calls h (base_of bases u + b)) + count_reads (fetch_calls (slot_of (emptied quotas bases h (base_of bases u + b)).slots (key quotas u b)) ws) = reads-append (dump_calls h (base_of bases u + b)) _ in
    let left : ℕ = (if nat_eq (owner_of h.owners (base_of bases u + b)) 0 then 0 else 1) in
    let kept : count_reads step ≡ (if is_some o then 1 else 0) = v ∙ (λ j. d.1 j + r.1 j) ∙ omega arith ∙ (λ j. if is_some (slot j) then 1 else 0) in
    (ap (λ (l : List Call). count_writes l) e ∙ w ∙ (λ j. d.0 j + r.0 j) ∙ omega arith ∙ flip (nat_eq (owner_of h.owners (base_of bases u + b)) 0), ap (λ (l : List Call). count_reads l) e ∙ kept)
  where
    flip : (t : Bool) → let left : ℕ = (if t then 0 else 1) in left ≡ (if not t then 1 else 0)
    flip true = refl
    flip false = refl

-- the calls of the second part, counted by owners and copies as it found them
counts : (quotas bases sizes : List ℕ) (h : BlockMap) (u n : ℕ) (words : ℕ → List ℕ) → IsImage bases h.owners h.slots quotas sizes → n ≤ size_of sizes u
    → (count_writes (calls_to quotas bases h u n words) ≡ others_from (owner_of h.owners) u n (base_of bases u))
    × (count_reads (calls_to quotas bases h u n words) ≡ count_below n (λ b. not (nat_eq (owner_of h.owners (base_of bases u + b)) u) && is_kept h.slots quotas u b))
counts quotas bases sizes h u zero words i few = (refl, refl)
counts quotas bases sizes h u (suc n) words i few =
    let now = load_to quotas bases h u n in
    let rest = counts quotas bases sizes h u n words i (omega arith) in
    let fits : n < quota_of quotas u = omega (arith, i.fits u) in
    let same : owner_of now.owners (base_of bases u + n) ≡ owner_of h.owners (base_of bases u + n) = owner_as_was quotas bases h u n (base_of bases u + n) (inr (omega arith)) in
    let slot : slot_of now.slots (key quotas u n) ≡ slot_of h.slots (key quotas u n) = slot_as_was quotas bases sizes h u n u n i (omega arith) (inr (omega arith)) fits in
    let below : nat_lt n (quota_of quotas u) ≡ true = grind (arith, nat_tests) in
    let front = calls_to quotas bases h u n words in
    let last = calls_one quotas bases now u n (words (base_of bases u + n)) in
    let dumped : ℕ → Bool = λ b. is_other (owner_of h.owners (base_of bases u + b)) u in
    let read : ℕ → Bool = λ b. not (nat_eq (owner_of h.owners (base_of bases u + b)) u) && is_kept h.slots quotas u b in
    elim (cases_eq (owner_of now.owners (base_of bases u + n)) u) [
      | inl mine ↦
          let was : owner_of h.owners (base_of bases u + n) ≡ u = sym same ∙ mine in
          let e : last ≡ [] = rw (eq_yes _ _ mine) refl in
          let a : count_writes last ≡ 0 = ap (λ (l : List Call). count_writes l) e in
          let b : count_reads last ≡ 0 = ap (λ (l : List Call). count_reads l) e in
          let d : dumped n ≡ false = rw (eq_yes _ _ was) refl in
          let r : read n ≡ false = rw (eq_yes _ _ was) refl in (
            writes-append front last ∙ (λ j. rest.0 j + a j) ∙ (λ j. count_below n dumped + (if sym d j then 1 else 0)),
            reads-append front last ∙ (λ j. rest.1 j + b j) ∙ (λ j. count_below n read + (if sym r j then 1 else 0)),
          )
      | inr other ↦
          let either : (owner_of now.owners (base_of bases u + n) ≡ 0)
          ⊎ (key quotas u n ≢ key quotas (owner_of now.owners (base_of bases u + n)) (base_of bases u + n - base_of bases (owner_of now.owners (base_of bases u + n)))) =
          elim (cases_eq (owner_of h.owners (base_of bases u + n)) 0) [
            | inl none ↦ inl (same ∙ none)
            | inr some ↦
                let Fits : ℕ → Type 0 = λ w. (base_of bases w ≤ base_of bases u + n) × (base_of bases u + n - base_of bases w < quota_of quotas w) in
                let theirs : Fits (owner_of now.owners (base_of bases u + n)) = subst Fits (sym same) (owned_fits bases h.owners h.slots quotas sizes (base_of bases u + n) i some) in
                let them : u ≢ owner_of now.owners (base_of bases u + n) = λ e. other (sym e) in
                inr (key_other_user quotas u (owner_of now.owners (base_of bases u + n)) n (base_of bases u + n - base_of bases (owner_of now.owners (base_of bases u + n))) fits theirs.1 them)
          ] in
          let o = slot_of h.slots (key quotas u n) in
          let one = one_counts quotas bases now u n (words (base_of bases u + n)) o other (emptied_slot quotas bases now (base_of bases u + n) (key quotas u n) either ∙ slot) in
          let was : owner_of h.owners (base_of bases u + n) ≢ u = λ e. other (same ∙ e) in
          let d : dumped n ≡ not (nat_eq (owner_of h.owners (base_of bases u + n)) 0) = rw (eq_no _ _ was) refl in
          let r : read n ≡ is_some o = rw (eq_no _ _ was, below) refl in
          let w : count_writes last ≡ (if dumped n then 1 else 0) = one.0 ∙ (λ j. if not (nat_eq (same j) 0) then 1 else 0) ∙ (λ j. if sym d j then 1 else 0) in
          let v : count_reads last ≡ (if read n then 1 else 0) = one.1 ∙ (λ j. if sym r j then 1 else 0) in
          (writes-append front last ∙ (λ j. rest.0 j + w j), reads-append front last ∙ (λ j. rest.1 j + v j))
    ]

-- the calls of the first part, where the user doesn't stay
put_counts : (quotas bases : List ℕ) (h : BlockMap) (u n : ℕ)
    → (count_writes (put_calls_to quotas bases h u n) ≡ count_below n (λ q. nat_eq (owner_of h.owners q) u)) × (count_reads (put_calls_to quotas bases h u n) ≡ 0)
put_counts quotas bases h u zero = (refl, refl)
put_counts quotas bases h u (suc q) =
    let now = put_to quotas bases h u q in
    let rest = put_counts quotas bases h u q in
    let front = put_calls_to quotas bases h u q in
    let last = put_calls_one now u q in
    let same : owner_of now.owners q ≡ owner_of h.owners q = put_above quotas bases h u q q (omega arith) in
    let one = by_test (nat_eq (owner_of now.owners q) u) (first_free now.free) in
    let w : count_writes last ≡ (if nat_eq (owner_of h.owners q) u then 1 else 0) = one.0 ∙ (λ j. if nat_eq (same j) u then 1 else 0) in
    let none : 0 + 0 ≡ 0 = omega arith in
    (writes-append front last ∙ (λ j. rest.0 j + w j), reads-append front last ∙ (λ j. rest.1 j + one.1 j) ∙ none)
  where
    by_test : (t : Bool) (r : ℕ) → let calls : List Call = (if t then write_call r false ∷ [] else []) in (count_writes calls ≡ (if t then 1 else 0)) × (count_reads calls ≡ 0)
    by_test true r = (refl, refl)
    by_test false r = (refl, refl)

other_same : (v u : ℕ) → is_other (if nat_eq v u then 0 else v) u ≡ is_other v u
other_same v u = elim (cases_eq v u) [
  | inl mine ↦ rw (eq_yes v u mine) (none (not (nat_eq 0 u)))
  | inr other ↦ rw (eq_no v u other) (rw (eq_no v u other) refl)
]
  where
    none : (t : Bool) → (t && false) ≡ false
    none true = refl
    none false = refl

-- the calls where the user stays
stay_counts : (at : Layout) (s : Slots) (sizes : List ℕ) (u n : ℕ) (words : ℕ → List ℕ) (base : ℕ) → IsImage at.bases at.owners s.slots.items s.quotas.items sizes → n ≤ size_of sizes u
    → stays (places_of at s) u n ≡ true
    → (count_writes (calls_to s.quotas.items at.bases (block_map_of at.owners s) u n words) ≡ dumps (places_of at s) u n)
    × (count_reads (calls_to s.quotas.items at.bases (block_map_of at.owners s) u n words) ≡ reads (places_of at s) u n)
unfolding places_of
stay_counts at s sizes u n words base i few is =
    let p : Places = places_of at s in
    let back = counts s.quotas.items at.bases sizes (block_map_of at.owners s) u n words i few in (
      back.0 ∙ ap (λ (b : ℕ). others_from (owner_of at.owners) u n b) (sym (base_stays (places_of at s) u n is)) ∙ sym (dumps_stays (places_of at s) u n is),
      back.1 ∙ sym (reads_based (places_of at s) (places_of at s) u n (based_stays (places_of at s) u n is)),
    )

-- and where it doesn't
move_counts : (at : Layout) (s : Slots) (sizes : List ℕ) (u n : ℕ) (words : ℕ → List ℕ) → IsImage at.bases at.owners s.slots.items s.quotas.items sizes → length s.slots.items ≡ sum s.quotas.items
    → 1 ≤ u → u < 31 → base_for (places_of at s) u n < 128 → n ≤ size_of sizes u → stays (places_of at s) u n ≡ false
    → let h : BlockMap = block_map_of at.owners s in
    let all : List Call = put_calls_to s.quotas.items at.bases h u core_places
    ++ calls_to s.quotas.items (slice_set at.bases u (base_for (places_of at s) u n)) (put_to s.quotas.items at.bases h u core_places) u n words in
    (count_writes all ≡ dumps (places_of at s) u n) × (count_reads all ≡ reads (places_of at s) u n)
unfolding places_of
move_counts at s sizes u n words i places some number inside few is =
    let h : BlockMap = block_map_of at.owners s in
    let quotas : List ℕ = s.quotas.items in
    let base : ℕ = base_for (places_of at s) u n in
    let m : BlockMap = put_to quotas at.bases h u core_places in
    let bases : List ℕ = slice_set at.bases u base in
    let sound : IsImage bases m.owners m.slots quotas sizes = sound_laid at.bases sizes quotas h u base i places some number inside in
    let front = put_counts quotas at.bases h u core_places in
    let back = counts quotas bases sizes m u n words sound few in
    let at_base : base_of bases u ≡ base = get_or-set_same at.bases u base 0 (omega (arith, i.numbers)) in
    let me : nat_eq u u ≡ true = eq-eqb u u refl in
    let at_place : base_of bases u ≡ (if nat_eq u u then base else base_of at.bases u) = at_base ∙ (λ j. if sym me j then base else base_of at.bases u) in
    let others : others_from (owner_of m.owners) u n base ≡ others_from (owner_of at.owners) u n base = count_same n _ _ (λ k below.
    ap (λ (v : ℕ). is_other v u) (put_owner quotas at.bases h s.slots.items sizes u (base + k) i some) ∙ other_same (owner_of at.owners (base + k)) u) in
    let one : (b : ℕ) → (not (nat_eq (owner_of m.owners (base_of bases u + b)) u) && is_kept m.slots quotas u b) ≡ is_read (put_out (places_of at s) u base) u b =
    λ b. (λ j. not (nat_eq (owner_of m.owners (at_place j + b)) u) && is_kept m.slots quotas u b)
    ∙ (λ j. not (nat_eq (put_owner quotas at.bases h s.slots.items sizes u ((if nat_eq u u then base else base_of at.bases u) + b) i some j) u) && put_kept quotas at.bases sizes h u u b i places some j) in
    let back_reads = back.1 ∙ count_same n _ _ (λ b below. one b) ∙ sym (reads_based (places_of at s) (put_out (places_of at s) u base) u n (based_moves (places_of at s) u n is)) in
    let back_writes = back.0 ∙ ap (λ (b : ℕ). others_from (owner_of m.owners) u n b) at_base ∙ others in
    let calls : List Call = calls_to quotas bases m u n words in
    let zero_more : 0 + reads (places_of at s) u n ≡ reads (places_of at s) u n = omega arith in (
      writes-append (put_calls_to quotas at.bases h u core_places) calls ∙ (λ j. front.0 j + back_writes j) ∙ sym (dumps_moves (places_of at s) u n is),
      reads-append (put_calls_to quotas at.bases h u core_places) calls ∙ (λ j. front.1 j + back_reads j) ∙ zero_more,
    )

-- a load of a user's blocks makes so many writes and so many reads
pub load_counts : (at : Layout) (s : Slots) (sizes : List ℕ) (u n : ℕ) (words : ℕ → List ℕ) → IsImage at.bases at.owners s.slots.items s.quotas.items sizes → length s.slots.items ≡ sum s.quotas.items
    → 1 ≤ u → u < 31 → base_for (places_of at s) u n < 128 → n ≤ size_of sizes u
    → let h : BlockMap = block_map_of at.owners s in
    let all : List Call = calls_before s.quotas.items at.bases h u (stays (places_of at s) u n)
    ++ calls_to s.quotas.items (bases_before at.bases u (stays (places_of at s) u n) (base_for (places_of at s) u n)) (map_before s.quotas.items at.bases h u (stays (places_of at s) u n)) u n words in
    (count_writes all ≡ dumps (places_of at s) u n) × (count_reads all ≡ reads (places_of at s) u n)
load_counts at s sizes u n words i places some number inside few = by_stay (stays (places_of at s) u n) refl
  where
    by_stay : (t : Bool) → stays (places_of at s) u n ≡ t
        → let h : BlockMap = block_map_of at.owners s in
        let all : List Call = calls_before s.quotas.items at.bases h u t
        ++ calls_to s.quotas.items (bases_before at.bases u t (base_for (places_of at s) u n)) (map_before s.quotas.items at.bases h u t) u n words in
        (count_writes all ≡ dumps (places_of at s) u n) × (count_reads all ≡ reads (places_of at s) u n)
    by_stay true is = stay_counts at s sizes u n words (base_for (places_of at s) u n) i few is
    by_stay false is = move_counts at s sizes u n words i places some number inside few is
