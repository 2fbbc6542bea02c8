-- Bases, owners and kept copies after each part of a load, and after a user gave up its blocks from one on.
use Rattle.std.specs.Prelude.{Bool, true, false, ◌&&◌, ◌||◌, not, Option, None, Some, nat_eq, nat_lt, nat_le, if◌then◌else◌, slice_set, sum, ◌-◌}
use Rattle.std.proofs.Common.{◌≡◌, ◌≢◌, ◌⊎◌, inl, inr, ℕ, suc, ◌+◌, ◌<◌, ◌≤◌, List, length, refl, sym, ◌∙◌, ap, subst, arith, get_or-set_same, get_or-set_other}
use Rattle.std.proofs.lemmas.Bool.{cases_eq}
use Rattle.std.proofs.lemmas.Bool.Decides.{nat_tests}
use Rattle.drum_slots.specs.Keys.{quota_of, key}
use Rattle.drum_slots.specs.Slots.{slot_of, first_free}
use Rattle.drum_slots.specs.declared.slots.Slots.{Slots}
use Rattle.drum_slots.proofs.Keys.{key_other_user, key_below}
use Rattle.drum_slots.proofs.Slotted.{slot_below}
use Rattle.onion_swap.specs.Places.{Layout, owner_of, base_of}
use Rattle.onion_swap.proofs.Owned.{none_past}
use Rattle.plan_model.specs.Loads.{Places, core_places, put_out, brought_in, given_up}
use Rattle.plan_model.proofs.LoadLaws.{core_places_is}
use Rattle.image_map.specs.Images.{size_of, IsImage, IsResident}
use Rattle.image_map.specs.Loads.{BlockMap, block_map_of, block_taken, emptied, load_one, load_to, put_to}
use Rattle.image_map.specs.Places.{is_some, is_kept, places_of}
use Rattle.image_map.proofs.Moves.{eq_yes, eq_no}
use Rattle.image_map.proofs.Calls.{emptied_some}
use Rattle.image_map.proofs.AsWas.{owner_as_was, owned_fits, load_slot, taken_slot, slot_as_was, slot_settled, load_lengths}
use Rattle.image_map.proofs.Put.{put_others, put_mine, put_slot_others, put_slot_mine}
use Rattle.image_map.proofs.Resize.{GivesUp, stays}

below_or : (b m : ℕ) → (b < m) ⊎ (m ≤ b)
below_or b m = grind arith

lt_yes : (m n : ℕ) → m < n → nat_lt m n ≡ true
lt_yes m n h = grind (arith, nat_tests)

lt_no : (m n : ℕ) → n ≤ m → nat_lt m n ≡ false
lt_no m n h = grind (arith, nat_tests)

le_yes : (m n : ℕ) → m ≤ n → nat_le m n ≡ true
le_yes m n h = grind (arith, nat_tests)

le_no : (m n : ℕ) → n < m → nat_le m n ≡ false
le_no m n h = grind (arith, nat_tests)

and_no : (b : Bool) → (b && false) ≡ false
and_no true = refl
and_no false = refl

or_no : (b : Bool) → (b || false) ≡ b
or_no true = refl
or_no false = refl

or_yes : (b : Bool) → (b || true) ≡ true
or_yes true = refl
or_yes false = refl

-- no copy is kept of a block past a user's quota
kept_past : (slots : List (Option ℕ)) (quotas : List ℕ) (v b : ℕ) → quota_of quotas v ≤ b → is_kept slots quotas v b ≡ false
kept_past slots quotas v b past = ap (λ (t : Bool). t && is_some (slot_of slots (key quotas v b))) (lt_no b (quota_of quotas v) past)

kept_at : (slots : List (Option ℕ)) (quotas : List ℕ) (v b : ℕ) → b < quota_of quotas v → is_kept slots quotas v b ≡ is_some (slot_of slots (key quotas v b))
kept_at slots quotas v b fits = ap (λ (t : Bool). t && is_some (slot_of slots (key quotas v b))) (lt_yes b (quota_of quotas v) fits)

-- a block of a user that is in core is below its quota and lies within core
core_fits : (bases owners : List ℕ) (slots : List (Option ℕ)) (quotas sizes : List ℕ) (u b : ℕ) → IsImage bases owners slots quotas sizes → 1 ≤ u → owner_of owners (base_of bases u + b) ≡ u
    → (b < quota_of quotas u) × (base_of bases u + b < 128)
core_fits bases owners slots quotas sizes u b i some mine =
    let at = i.owned u (base_of bases u + b) some mine in
    let most : size_of sizes u ≤ quota_of quotas u = i.fits u in (
      omega (arith, at.1),
      elim (below_or (base_of bases u + b) 128) [
        | inl inside ↦ inside
        | inr past ↦ let none : owner_of owners (base_of bases u + b) ≡ 0 = none_past owners (base_of bases u + b) (omega (arith, i.places)) in absurd (omega arith)
      ],
    )

-- the first part

pub put_owner : (quotas bases : List ℕ) (h : BlockMap) (slots : List (Option ℕ)) (sizes : List ℕ) (u q : ℕ) → IsImage bases h.owners slots quotas sizes → 1 ≤ u
    → owner_of (put_to quotas bases h u core_places).owners q ≡ (if nat_eq (owner_of h.owners q) u then 0 else owner_of h.owners q)
put_owner quotas bases h slots sizes u q i some = elim (cases_eq (owner_of h.owners q) u) [
  | inl mine ↦
      let inside : q < 128 = elim (below_or q 128) [
        | inl below ↦ below
        | inr past ↦ let none : owner_of h.owners q ≡ 0 = none_past h.owners q (omega (arith, i.places)) in absurd (omega arith)
      ] in
      rw (eq_yes _ _ mine) (put_mine quotas bases h u core_places q (omega (arith, core_places_is)) (omega (arith, i.places)) mine)
  | inr other ↦ rw (eq_no _ _ other) (put_others quotas bases h u core_places q other)
]

pub put_kept : (quotas bases sizes : List ℕ) (h : BlockMap) (u v b : ℕ) → IsImage bases h.owners h.slots quotas sizes → length h.slots ≡ sum quotas → 1 ≤ u
    → is_kept (put_to quotas bases h u core_places).slots quotas v b ≡ (is_kept h.slots quotas v b || (nat_eq v u && nat_eq (owner_of h.owners (base_of bases u + b)) u))
put_kept quotas bases sizes h u v b i places some = elim (cases_eq v u) [
  | inl me ↦ elim (cases_eq (owner_of h.owners (base_of bases u + b)) u) [
    | inl mine ↦
        let there = core_fits bases h.owners h.slots quotas sizes u b i some mine in
        let inside : key quotas u b < length h.slots = omega (arith, places, key_below quotas u b there.0) in
        let now = put_slot_mine quotas bases sizes h u core_places b i some there.0 inside (omega (arith, core_places_is, there.1)) mine in
        ap (λ (w : ℕ). is_kept (put_to quotas bases h u core_places).slots quotas w b) me
        ∙ kept_at (put_to quotas bases h u core_places).slots quotas u b there.0 ∙ now
        ∙ sym (or_yes (is_kept h.slots quotas v b))
        ∙ (λ j. is_kept h.slots quotas v b || (sym (eq_yes v u me) j && sym (eq_yes _ _ mine) j))
    | inr other ↦
        same (inr (λ e. other (ap (λ (w : ℕ). owner_of h.owners (base_of bases w + b)) (sym me) ∙ e)))
        ∙ sym (or_no (is_kept h.slots quotas v b)) ∙ ap (λ (t : Bool). is_kept h.slots quotas v b || t) (sym (and_no (nat_eq v u)))
        ∙ (λ j. is_kept h.slots quotas v b || (nat_eq v u && sym (eq_no _ _ other) j))
  ]
  | inr them ↦ same (inl them) ∙ sym (or_no (is_kept h.slots quotas v b)) ∙ (λ j. is_kept h.slots quotas v b || (sym (eq_no v u them) j && nat_eq (owner_of h.owners (base_of bases u + b)) u))
]
  where
    same : (v ≢ u) ⊎ (owner_of h.owners (base_of bases v + b) ≢ u) → is_kept (put_to quotas bases h u core_places).slots quotas v b ≡ is_kept h.slots quotas v b
    same either = elim (below_or b (quota_of quotas v)) [
      | inl fits ↦ ap (λ (o : Option ℕ). nat_lt b (quota_of quotas v) && is_some o) (put_slot_others quotas bases sizes h u core_places v b i some fits either)
      | inr past ↦ kept_past (put_to quotas bases h u core_places).slots quotas v b past ∙ sym (kept_past h.slots quotas v b past)
    ]

-- what a user had in core is on the drum, and it has another base
pub places_put : (at at' : Layout) (s s' : Slots) (sizes : List ℕ) (u base : ℕ) → IsImage at.bases at.owners s.slots.items s.quotas.items sizes → length s.slots.items ≡ sum s.quotas.items → 1 ≤ u → u < 31
    → s'.quotas ≡ s.quotas → block_map_of at'.owners s' ≡ put_to s.quotas.items at.bases (block_map_of at.owners s) u core_places → at'.bases ≡ slice_set at.bases u base
    → places_of at' s' ≡ put_out (places_of at s) u base
unfolding places_of
places_put at at' s s' sizes u base i places some number same held based =
    let h : BlockMap = block_map_of at.owners s in
    let quotas = s.quotas.items in
    let eo : (q : ℕ) → owner_of at'.owners q ≡ (if nat_eq (owner_of at.owners q) u then 0 else owner_of at.owners q)
    = λ q. ap (λ (k : BlockMap). owner_of k.owners q) held ∙ put_owner quotas at.bases h s.slots.items sizes u q i some in
    let ek : (v b : ℕ) → is_kept s'.slots.items s'.quotas.items v b ≡ (is_kept s.slots.items quotas v b || (nat_eq v u && nat_eq (owner_of at.owners (base_of at.bases u + b)) u))
    = λ v b. (λ j. is_kept (held j).slots (same j).items v b) ∙ put_kept quotas at.bases sizes h u v b i places some in
    λ j. let p : Places = record { owner = λ q. eo q j; base = λ v. eb v j; kept = λ v b. ek v b j } in p
  where
    eb : (v : ℕ) → base_of at'.bases v ≡ (if nat_eq v u then base else base_of at.bases v)
    eb v = ap (λ (l : List ℕ). base_of l v) based ∙ elim (cases_eq v u) [
      | inl me ↦ ap (λ (w : ℕ). base_of (slice_set at.bases u base) w) me ∙ get_or-set_same at.bases u base 0 (omega (arith, i.numbers)) ∙ (λ j. if sym (eq_yes v u me) j then base else base_of at.bases v)
      | inr them ↦ get_or-set_other at.bases u v base 0 them ∙ (λ j. if sym (eq_no v u them) j then base else base_of at.bases v)
    ]

-- the second part

-- a place that was emptied has no record
none_there : (slots : List (Option ℕ)) (k r : ℕ) → slot_of slots k ≡ Some r → slot_of (slice_set slots k None) k ≡ None
none_there slots k r is = get_or-set_same slots k None None (slot_below slots k r is)

-- one step of a load, of a block that isn't in core: no copy of it is kept behind that
one_mine : (quotas bases : List ℕ) (h : BlockMap) (u b : ℕ) → owner_of h.owners (base_of bases u + b) ≢ u → slot_of (load_one quotas bases h u b).slots (key quotas u b) ≡ None
one_mine quotas bases h u b other =
    let o = slot_of (emptied quotas bases h (base_of bases u + b)).slots (key quotas u b) in
    let e : load_one quotas bases h u b ≡ block_taken quotas bases (emptied quotas bases h (base_of bases u + b)) u b o = rw (eq_no _ _ other) refl in
    ap (λ (i : BlockMap). slot_of i.slots (key quotas u b)) e ∙ gone (emptied quotas bases h (base_of bases u + b)) o refl
  where
    gone : (k : BlockMap) (o : Option ℕ) → slot_of k.slots (key quotas u b) ≡ o → slot_of (block_taken quotas bases k u b o).slots (key quotas u b) ≡ None
    gone k None is = is
    gone k (Some r) is = none_there k.slots (key quotas u b) r is

-- a copy of what lay there is kept
one_theirs : (quotas bases : List ℕ) (h : BlockMap) (u b v c : ℕ) → owner_of h.owners (base_of bases u + b) ≡ v → v ≢ u → v ≢ 0 → base_of bases v + c ≡ base_of bases u + b
    → key quotas v c < length h.slots → key quotas v c ≢ key quotas u b → slot_of (load_one quotas bases h u b).slots (key quotas v c) ≡ Some (first_free h.free)
one_theirs quotas bases h u b v c is other some at inside apart =
    let o = slot_of (emptied quotas bases h (base_of bases u + b)).slots (key quotas u b) in
    let here : owner_of h.owners (base_of bases u + b) ≢ u = λ e. other (sym is ∙ e) in
    let owned : owner_of h.owners (base_of bases u + b) ≢ 0 = λ e. some (sym is ∙ e) in
    let block : base_of bases u + b - base_of bases v ≡ c = omega arith in
    let e : load_one quotas bases h u b ≡ block_taken quotas bases (emptied quotas bases h (base_of bases u + b)) u b o = rw (eq_no _ _ here) refl in
    ap (λ (i : BlockMap). slot_of i.slots (key quotas v c)) e
    ∙ taken_slot quotas bases (emptied quotas bases h (base_of bases u + b)) u b (key quotas v c) o apart
    ∙ ap (λ (i : BlockMap). slot_of i.slots (key quotas v c)) (emptied_some quotas bases h (base_of bases u + b) owned)
    ∙ ap (λ (w : ℕ). slot_of (slice_set h.slots (key quotas w (base_of bases u + b - base_of bases w)) (Some (first_free h.free))) (key quotas v c)) is
    ∙ ap (λ (d : ℕ). slot_of (slice_set h.slots (key quotas v d) (Some (first_free h.free))) (key quotas v c)) block
    ∙ get_or-set_same h.slots (key quotas v c) (Some (first_free h.free)) None inside

-- the user's own copies: a block that wasn't in core has none
mine_loaded : (quotas bases sizes : List ℕ) (h : BlockMap) (u n b : ℕ) → IsImage bases h.owners h.slots quotas sizes → n ≤ quota_of quotas u
    → is_kept (load_to quotas bases h u n).slots quotas u b
    ≡ (is_kept h.slots quotas u b && not (nat_lt b n && (not (nat_eq (owner_of h.owners (base_of bases u + b)) u) && is_kept h.slots quotas u b)))
mine_loaded quotas bases sizes h u n b i all = elim (below_or b n) [
  | inl below ↦
      let fits : b < quota_of quotas u = omega arith in
      let same : owner_of (load_to quotas bases h u b).owners (base_of bases u + b) ≡ owner_of h.owners (base_of bases u + b) = owner_as_was quotas bases h u b (base_of bases u + b) (inr (omega arith)) in
      let there = slot_settled quotas bases sizes h u n u b b i all refl below fits in
      elim (cases_eq (owner_of h.owners (base_of bases u + b)) u) [
        | inl mine ↦
            let e : load_one quotas bases (load_to quotas bases h u b) u b ≡ load_to quotas bases h u b = rw (eq_yes _ _ (same ∙ mine)) refl in
            let slot : slot_of (load_to quotas bases h u n).slots (key quotas u b) ≡ slot_of h.slots (key quotas u b) =
            there ∙ ap (λ (k : BlockMap). slot_of k.slots (key quotas u b)) e ∙ slot_as_was quotas bases sizes h u b u b i (omega arith) (inr (omega arith)) fits in
            ap (λ (o : Option ℕ). nat_lt b (quota_of quotas u) && is_some o) slot
            ∙ rw (lt_yes b n below, eq_yes _ _ mine) (stay (is_kept h.slots quotas u b))
        | inr other ↦
            let none : slot_of (load_to quotas bases h u n).slots (key quotas u b) ≡ None = there ∙ one_mine quotas bases (load_to quotas bases h u b) u b (λ e. other (sym same ∙ e)) in
            ap (λ (o : Option ℕ). nat_lt b (quota_of quotas u) && is_some o) none ∙ and_no (nat_lt b (quota_of quotas u))
            ∙ rw (lt_yes b n below, eq_no _ _ other) (gone (is_kept h.slots quotas u b))
      ]
  | inr past ↦
      kept_same (inr (omega arith)) ∙ rw (lt_no b n past) (stay (is_kept h.slots quotas u b))
]
  where
    stay : (k : Bool) → k ≡ (k && true)
    stay true = refl
    stay false = refl

    gone : (k : Bool) → false ≡ (k && not k)
    gone true = refl
    gone false = refl

    kept_same : (base_of bases u + b < base_of bases u) ⊎ (base_of bases u + n ≤ base_of bases u + b) → is_kept (load_to quotas bases h u n).slots quotas u b ≡ is_kept h.slots quotas u b
    kept_same away = elim (below_or b (quota_of quotas u)) [
      | inl fits ↦ ap (λ (o : Option ℕ). nat_lt b (quota_of quotas u) && is_some o) (slot_as_was quotas bases sizes h u n u b i all away fits)
      | inr past ↦ kept_past (load_to quotas bases h u n).slots quotas u b past ∙ sym (kept_past h.slots quotas u b past)
    ]

-- those of others: what lay in the user's places has one
theirs_loaded : (quotas bases sizes : List ℕ) (h : BlockMap) (u n v b : ℕ) → IsImage bases h.owners h.slots quotas sizes → length h.slots ≡ sum quotas → n ≤ quota_of quotas u → v ≢ u
    → is_kept (load_to quotas bases h u n).slots quotas v b
    ≡ ((nat_le (base_of bases u) (base_of bases v + b) && nat_lt (base_of bases v + b) (base_of bases u + n))
    && (not (nat_eq (owner_of h.owners (base_of bases v + b)) u) && not (nat_eq (owner_of h.owners (base_of bases v + b)) 0))
    && nat_eq (owner_of h.owners (base_of bases v + b)) v || is_kept h.slots quotas v b)
theirs_loaded quotas bases sizes h u n v b i places all them = elim (below_or (base_of bases v + b) (base_of bases u)) [
  | inl low ↦ same (inl low) ∙ rw (le_no (base_of bases u) (base_of bases v + b) low) refl
  | inr over ↦ elim (below_or (base_of bases v + b) (base_of bases u + n)) [
    | inr high ↦ same (inr high) ∙ rw (lt_no (base_of bases v + b) (base_of bases u + n) high, and_no (nat_le (base_of bases u) (base_of bases v + b))) refl
    | inl inside ↦ reached (base_of bases v + b - base_of bases u) (omega arith) (omega arith) over inside
  ]
]
  where
    same : (base_of bases v + b < base_of bases u) ⊎ (base_of bases u + n ≤ base_of bases v + b) → is_kept (load_to quotas bases h u n).slots quotas v b ≡ is_kept h.slots quotas v b
    same away = elim (below_or b (quota_of quotas v)) [
      | inl fits ↦ ap (λ (o : Option ℕ). nat_lt b (quota_of quotas v) && is_some o) (slot_as_was quotas bases sizes h u n v b i all away fits)
      | inr past ↦ kept_past (load_to quotas bases h u n).slots quotas v b past ∙ sym (kept_past h.slots quotas v b past)
    ]

    reached : (c : ℕ) → base_of bases v + b ≡ base_of bases u + c → c < n → base_of bases u ≤ base_of bases v + b → base_of bases v + b < base_of bases u + n
        → is_kept (load_to quotas bases h u n).slots quotas v b
        ≡ ((nat_le (base_of bases u) (base_of bases v + b) && nat_lt (base_of bases v + b) (base_of bases u + n))
        && (not (nat_eq (owner_of h.owners (base_of bases v + b)) u) && not (nat_eq (owner_of h.owners (base_of bases v + b)) 0))
        && nat_eq (owner_of h.owners (base_of bases v + b)) v || is_kept h.slots quotas v b)
    reached c at below over inside =
        rw (le_yes (base_of bases u) (base_of bases v + b) over, lt_yes (base_of bases v + b) (base_of bases u + n) inside)
        (elim (below_or b (quota_of quotas v)) [
          | inl fits ↦ kept_at (load_to quotas bases h u n).slots quotas v b fits
              ∙ ap is_some (slot_settled quotas bases sizes h u n v b c i all at below fits)
              ∙ stepped fits
              ∙ (λ j. (not (nat_eq (owner_of h.owners (base_of bases v + b)) u) && not (nat_eq (owner_of h.owners (base_of bases v + b)) 0)) && nat_eq (owner_of h.owners (base_of bases v + b)) v
              || sym (kept_at h.slots quotas v b fits) j)
          | inr past ↦
              let away : owner_of h.owners (base_of bases v + b) ≡ v → v ≡ 0 = λ mine. elim (cases_eq v 0) [
                | inl none ↦ none
                | inr some ↦ let k = core_fits bases h.owners h.slots quotas sizes v b i (grind arith) mine in absurd (omega (arith, k.0))
              ] in
              kept_past (load_to quotas bases h u n).slots quotas v b past
              ∙ past_test (owner_of h.owners (base_of bases v + b)) away
              ∙ (λ j. (not (nat_eq (owner_of h.owners (base_of bases v + b)) u) && not (nat_eq (owner_of h.owners (base_of bases v + b)) 0)) && nat_eq (owner_of h.owners (base_of bases v + b)) v
              || sym (kept_past h.slots quotas v b past) j)
        ])
      where
        past_test : (o : ℕ) → (o ≡ v → v ≡ 0) → false ≡ ((not (nat_eq o u) && not (nat_eq o 0)) && nat_eq o v || false)
        past_test o away = elim (cases_eq o v) [
          | inl mine ↦ let none : o ≡ 0 = mine ∙ away mine in rw (eq_yes o 0 none, and_no (not (nat_eq o u))) refl
          | inr other ↦ rw (eq_no o v other, and_no (not (nat_eq o u) && not (nat_eq o 0))) refl
        ]

        stepped : b < quota_of quotas v → is_some (slot_of (load_to quotas bases h u (suc c)).slots (key quotas v b))
            ≡ ((not (nat_eq (owner_of h.owners (base_of bases v + b)) u) && not (nat_eq (owner_of h.owners (base_of bases v + b)) 0)) && nat_eq (owner_of h.owners (base_of bases v + b)) v
            || is_some (slot_of h.slots (key quotas v b)))
        stepped fits =
            let place : owner_of (load_to quotas bases h u c).owners (base_of bases u + c) ≡ owner_of h.owners (base_of bases v + b) =
            owner_as_was quotas bases h u c (base_of bases u + c) (inr (omega arith)) ∙ ap (λ (q : ℕ). owner_of h.owners q) (sym at) in
            let slot : slot_of (load_to quotas bases h u c).slots (key quotas v b) ≡ slot_of h.slots (key quotas v b) =
            slot_as_was quotas bases sizes h u c v b i (omega arith) (inr (omega arith)) fits in
            let mine : c < quota_of quotas u = omega arith in
            let apart : key quotas v b ≢ key quotas u c = key_other_user quotas v u b c fits mine them in
            elim (cases_eq (owner_of h.owners (base_of bases v + b)) u) [
              | inl own ↦
                  let e : load_one quotas bases (load_to quotas bases h u c) u c ≡ load_to quotas bases h u c = rw (eq_yes _ _ (place ∙ own)) refl in
                  ap (λ (k : BlockMap). is_some (slot_of k.slots (key quotas v b))) e ∙ ap is_some slot ∙ rw (eq_yes _ _ own) refl
              | inr not_own ↦ elim (cases_eq (owner_of h.owners (base_of bases v + b)) 0) [
                | inl none ↦
                    let step = load_slot quotas bases (load_to quotas bases h u c) u c (key quotas v b) apart (inl (place ∙ none)) in
                    ap is_some (step ∙ slot) ∙ rw (eq_no _ _ not_own, eq_yes _ _ none) refl
                | inr some ↦ elim (cases_eq (owner_of h.owners (base_of bases v + b)) v) [
                  | inl asked ↦
                      let inside_slots : key quotas v b < length (load_to quotas bases h u c).slots = omega (arith, places, key_below quotas v b fits, (load_lengths quotas bases h u c).1) in
                      let kept = one_theirs quotas bases (load_to quotas bases h u c) u c v b (place ∙ asked) them (λ e. some (asked ∙ e)) at inside_slots apart in
                      ap is_some kept ∙ rw (eq_no _ _ not_own, eq_no _ _ some, eq_yes _ _ asked) refl
                  | inr away ↦
                      let Fits : ℕ → Type 0 = λ x. (base_of bases x ≤ base_of bases v + b) × (base_of bases v + b - base_of bases x < quota_of quotas x) in
                      let theirs : Fits (owner_of (load_to quotas bases h u c).owners (base_of bases u + c)) = subst Fits (sym place) (owned_fits bases h.owners h.slots quotas sizes (base_of bases v + b) i some) in
                      let not_v : v ≢ owner_of (load_to quotas bases h u c).owners (base_of bases u + c) = λ e. away (sym place ∙ sym e) in
                      let step = load_slot quotas bases (load_to quotas bases h u c) u c (key quotas v b) apart
                      (inr (others_key (owner_of (load_to quotas bases h u c).owners (base_of bases u + c)) theirs.1 not_v)) in
                      ap is_some (step ∙ slot) ∙ rw (eq_no _ _ not_own, eq_no _ _ some, eq_no _ _ away) refl
                ]
              ]
            ]
          where
            others_key : (x : ℕ) → base_of bases v + b - base_of bases x < quota_of quotas x → v ≢ x → key quotas v b ≢ key quotas x (base_of bases u + c - base_of bases x)
            others_key x theirs other =
                let e : base_of bases u + c - base_of bases x ≡ base_of bases v + b - base_of bases x = omega arith in
                key_other_user quotas v x b (base_of bases u + c - base_of bases x) fits (omega arith) other

-- owners and kept copies behind it
pub places_brought : (at at' : Layout) (s s' : Slots) (sizes : List ℕ) (u n : ℕ) → IsImage at.bases at.owners s.slots.items s.quotas.items sizes → length s.slots.items ≡ sum s.quotas.items
    → s'.quotas ≡ s.quotas → at'.bases ≡ at.bases → block_map_of at'.owners s' ≡ load_to s.quotas.items at.bases (block_map_of at.owners s) u n → IsResident at' n u → n ≤ quota_of s.quotas.items u
    → places_of at' s' ≡ brought_in (places_of at s) u n
unfolding places_of
places_brought at at' s s' sizes u n i places same based held resident all =
    λ j. let p : Places = record { owner = λ q. eo q j; base = λ v. base_of (based j) v; kept = λ v b. ek v b j } in p
  where
    eo : (q : ℕ) → owner_of at'.owners q ≡ (if (nat_le (base_of at.bases u) q && nat_lt q (base_of at.bases u + n)) then u else owner_of at.owners q)
    eo q = elim (below_or q (base_of at.bases u)) [
      | inl low ↦ was_there (inl low) ∙ rw (le_no (base_of at.bases u) q low) refl
      | inr over ↦ elim (below_or q (base_of at.bases u + n)) [
        | inr high ↦ was_there (inr high) ∙ rw (lt_no q (base_of at.bases u + n) high, and_no (nat_le (base_of at.bases u) q)) refl
        | inl inside ↦
            let e : base_of at'.bases u ≡ base_of at.bases u = ap (λ (l : List ℕ). base_of l u) based in
            let here : base_of at'.bases u + (q - base_of at.bases u) ≡ q = omega arith in
            ap (λ (r : ℕ). owner_of at'.owners r) (sym here) ∙ resident (q - base_of at.bases u) (omega arith)
            ∙ rw (le_yes (base_of at.bases u) q over, lt_yes q (base_of at.bases u + n) inside) refl
      ]
    ]
      where
        was_there : (q < base_of at.bases u) ⊎ (base_of at.bases u + n ≤ q) → owner_of at'.owners q ≡ owner_of at.owners q
        was_there away = ap (λ (k : BlockMap). owner_of k.owners q) held ∙ owner_as_was s.quotas.items at.bases (block_map_of at.owners s) u n q away

    ek : (v b : ℕ) → is_kept s'.slots.items s'.quotas.items v b
        ≡ ((nat_le (base_of at.bases u) (base_of at.bases v + b) && nat_lt (base_of at.bases v + b) (base_of at.bases u + n))
        && (not (nat_eq (owner_of at.owners (base_of at.bases v + b)) u) && not (nat_eq (owner_of at.owners (base_of at.bases v + b)) 0))
        && nat_eq (owner_of at.owners (base_of at.bases v + b)) v
        || is_kept s.slots.items s.quotas.items v b && not (nat_eq v u && nat_lt b n && (not (nat_eq (owner_of at.owners (base_of at.bases u + b)) u) && is_kept s.slots.items s.quotas.items u b)))
    ek v b = (λ j. is_kept (held j).slots (same j).items v b) ∙ elim (cases_eq v u) [
      | inl me ↦
          ap (λ (w : ℕ). is_kept (load_to s.quotas.items at.bases (block_map_of at.owners s) u n).slots s.quotas.items w b) me
          ∙ mine_loaded s.quotas.items at.bases sizes (block_map_of at.owners s) u n b i all
          ∙ mine_test (owner_of at.owners (base_of at.bases v + b))
          (nat_le (base_of at.bases u) (base_of at.bases v + b) && nat_lt (base_of at.bases v + b) (base_of at.bases u + n)) me
      | inr them ↦
          theirs_loaded s.quotas.items at.bases sizes (block_map_of at.owners s) u n v b i places all them
          ∙ rw (eq_no v u them) (theirs_test ((nat_le (base_of at.bases u) (base_of at.bases v + b) && nat_lt (base_of at.bases v + b) (base_of at.bases u + n))
          && (not (nat_eq (owner_of at.owners (base_of at.bases v + b)) u) && not (nat_eq (owner_of at.owners (base_of at.bases v + b)) 0))
          && nat_eq (owner_of at.owners (base_of at.bases v + b)) v) (is_kept s.slots.items s.quotas.items v b))
    ]
      where
        theirs_test : (d k : Bool) → (d || k) ≡ (d || k && true)
        theirs_test true k = refl
        theirs_test false true = refl
        theirs_test false false = refl

        none_asked : (w o : Bool) → ((w && (false && o)) && true) ≡ false
        none_asked true o = refl
        none_asked false o = refl

        not_asked : (w o : Bool) → ((w && o) && false) ≡ false
        not_asked true true = refl
        not_asked true false = refl
        not_asked false o = refl

        mine_test : (o : ℕ) (w : Bool) → v ≡ u
            → (is_kept s.slots.items s.quotas.items u b && not (nat_lt b n && (not (nat_eq (owner_of at.owners (base_of at.bases u + b)) u) && is_kept s.slots.items s.quotas.items u b)))
            ≡ (w && (not (nat_eq o u) && not (nat_eq o 0)) && nat_eq o v
            || is_kept s.slots.items s.quotas.items v b && not (nat_eq v u && nat_lt b n && (not (nat_eq (owner_of at.owners (base_of at.bases u + b)) u) && is_kept s.slots.items s.quotas.items u b)))
        mine_test o w me =
            let first : (w && (not (nat_eq o u) && not (nat_eq o 0)) && nat_eq o v) ≡ false = elim (cases_eq o u) [
              | inl own ↦ rw (eq_yes o u own, eq_yes o v (own ∙ sym me)) (none_asked w (not (nat_eq o 0)))
              | inr other ↦ rw (eq_no o v (λ e. other (e ∙ me))) (not_asked w (not (nat_eq o u) && not (nat_eq o 0)))
            ] in
            (λ j. sym first j || is_kept s.slots.items s.quotas.items (sym me j) b && not (sym (eq_yes v u me) j && nat_lt b n && (not (nat_eq (owner_of at.owners (base_of at.bases u + b)) u) && is_kept s.slots.items s.quotas.items u b)))

given : (was : Bool) → (was && not true) ≡ false
given true = refl
given false = refl

held_on : (was : Bool) → (was && not false) ≡ was
held_on true = refl
held_on false = refl

-- bases, owners and kept copies after a user gave up its blocks from m on
pub places_given_up : (at at' : Layout) (s s' : Slots) (u m : ℕ) → GivesUp at.owners at'.owners s.slots.items s'.slots.items s.quotas.items at.bases u m
    → s'.quotas ≡ s.quotas → at'.bases ≡ at.bases → places_of at' s' ≡ given_up (places_of at s) u m
unfolding places_of
places_given_up at at' s s' u m g same based =
    λ j. let p : Places = record { owner = λ q. eo q j; base = λ v. base_of (based j) v; kept = λ v b. ((λ i. is_kept s'.slots.items (same i).items v b) ∙ ek v b) j } in p
  where
    eo : (q : ℕ) → owner_of at'.owners q ≡ (if (nat_eq (owner_of at.owners q) u && nat_le (base_of at.bases u + m) q) then 0 else owner_of at.owners q)
    eo q = elim (cases_eq (owner_of at.owners q) u) [
      | inl mine ↦ elim (below_or q (base_of at.bases u + m)) [
        | inl under ↦ rw (eq_yes _ _ mine, le_no (base_of at.bases u + m) q under) (g.owner_below q under)
        | inr over ↦ rw (eq_yes _ _ mine, le_yes (base_of at.bases u + m) q over) (g.owner_gone q over mine)
      ]
      | inr other ↦ rw (eq_no _ _ other) (g.owner_others q other)
    ]

    ek : (v b : ℕ) → is_kept s'.slots.items s.quotas.items v b ≡ (is_kept s.slots.items s.quotas.items v b && not (nat_eq v u && nat_le m b))
    ek v b = elim (below_or b (quota_of s.quotas.items v)) [
      | inl fits ↦ elim (cases_eq v u) [
        | inl me ↦ elim (below_or b m) [
          | inl under ↦ rw (eq_yes _ _ me, le_no m b under)
              (ap (λ (o : Option ℕ). nat_lt b (quota_of s.quotas.items v) && is_some o) (stays at.owners at'.owners s.slots.items s'.slots.items s.quotas.items at.bases u m b v g fits (inr under)) ∙ sym (held_on _))
          | inr over ↦
              let f : b < quota_of s.quotas.items u = subst (λ (w : ℕ). b < quota_of s.quotas.items w) me fits in
              let none : slot_of s'.slots.items (key s.quotas.items v b) ≡ None = ap (λ (w : ℕ). slot_of s'.slots.items (key s.quotas.items w b)) me ∙ g.slot_gone b over f in
              rw (eq_yes _ _ me, le_yes m b over, lt_yes b (quota_of s.quotas.items v) fits) (ap is_some none ∙ sym (given _))
        ]
        | inr them ↦ rw (eq_no _ _ them)
            (ap (λ (o : Option ℕ). nat_lt b (quota_of s.quotas.items v) && is_some o) (stays at.owners at'.owners s.slots.items s'.slots.items s.quotas.items at.bases u m b v g fits (inl them)) ∙ sym (held_on _))
      ]
      | inr past ↦ rw (lt_no b (quota_of s.quotas.items v) past) refl
    ]

given_twice : (was me low : Bool) → ((was && not (me && true)) && not (me && low)) ≡ (was && not (me && true))
given_twice true true low = refl
given_twice true false low = refl
given_twice false me low = refl

-- what was given up whole has nothing left to give up
pub given_up_twice : (p : Places) (u m : ℕ) → given_up (given_up p u 0) u m ≡ given_up p u 0
given_up_twice p u m = λ j. let q : Places = record { owner = λ r. owner r j; base = p.base; kept = λ v b. kept v b j } in q
  where
    owner : (r : ℕ) → (if (nat_eq (if (nat_eq (p.owner r) u && nat_le (p.base u + 0) r) then 0 else p.owner r) u && nat_le (p.base u + m) r) then 0 else (if (nat_eq (p.owner r) u && nat_le (p.base u + 0) r) then 0 else p.owner r))
        ≡ (if (nat_eq (p.owner r) u && nat_le (p.base u + 0) r) then 0 else p.owner r)
    owner r = elim (cases_eq (p.owner r) u) [
      | inl mine ↦ elim (below_or r (p.base u + 0)) [
        | inl under ↦
            let low : nat_le (p.base u + 0) r ≡ false = le_no (p.base u + 0) r under in
            let lower : nat_le (p.base u + m) r ≡ false = le_no (p.base u + m) r (omega arith) in
            rw (eq_yes _ _ mine, low, lower) (rw (eq_yes _ _ mine) refl)
        | inr over ↦ rw (eq_yes _ _ mine, le_yes (p.base u + 0) r over) (either (nat_eq 0 u && nat_le (p.base u + m) r))
      ]
      | inr them ↦ rw (eq_no _ _ them) (rw (eq_no _ _ them) refl)
    ]
      where
        either : (t : Bool) → let left : ℕ = (if t then 0 else 0) in left ≡ 0
        either true = refl
        either false = refl

    kept : (v b : ℕ) → ((p.kept v b && not (nat_eq v u && nat_le 0 b)) && not (nat_eq v u && nat_le m b)) ≡ (p.kept v b && not (nat_eq v u && nat_le 0 b))
    kept v b = rw (le_yes 0 b (omega arith)) (given_twice (p.kept v b) (nat_eq v u) (nat_le m b))
