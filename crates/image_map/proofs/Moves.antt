-- A move of one block keeps what an image keeps, and every user's own core.
use Rattle.std.specs.Prelude.{true, false, Option, None, Some, nat_eq, if◌then◌else◌, slice_set, replicate}
use Rattle.std.proofs.Common.{◌≡◌, ◌≢◌, ◌⊎◌, inl, inr, ℕ, zero, suc, ◌+◌, ◌<◌, ◌≤◌, List, [], ◌∷◌, ◌++◌, length, refl, sym, ◌∙◌, ap, arith, get_or-set_same, get_or-set_other, length-set}
use Rattle.std.proofs.lemmas.Bool.{cases_eq}
use Rattle.std.proofs.lemmas.Bool.Decides.{nat_tests}
use Rattle.std.proofs.lemmas.List.{length-replicate}
use Rattle.drum_slots.specs.Keys.{quota_of, key}
use Rattle.drum_slots.specs.Slots.{slot_of}
use Rattle.drum_slots.proofs.Keys.{key_other_block, key_other_user}
use Rattle.image_map.specs.Blocks.{first}
use Rattle.onion_swap.specs.Places.{owner_of, base_of}
use Rattle.image_map.specs.Images.{size_of, or_blank, copy_of, view, image_over, IsImage}

-- one block of one user moves, between core, the drum and nowhere; all else stays
pub record Moves (owners owners' : List ℕ) (slots slots' : List (Option ℕ)) (quotas bases : List ℕ) (x b : ℕ) : Type 0 where
  pub len : length owners' ≡ length owners
  pub owner : (q : ℕ) → q ≢ base_of bases x + b → owner_of owners' q ≡ owner_of owners q
  pub slot : (k : ℕ) → k ≢ key quotas x b → slot_of slots' k ≡ slot_of slots k
  pub before : (owner_of owners (base_of bases x + b) ≡ 0) ⊎ (owner_of owners (base_of bases x + b) ≡ x)
  pub after : (owner_of owners' (base_of bases x + b) ≡ 0) ⊎ (owner_of owners' (base_of bases x + b) ≡ x)
  pub own : owner_of owners' (base_of bases x + b) ≡ x → slot_of slots' (key quotas x b) ≡ None

pub eq_yes : (m n : ℕ) → m ≡ n → nat_eq m n ≡ true
eq_yes m n h = grind (arith, nat_tests)

pub eq_no : (m n : ℕ) → m ≢ n → nat_eq m n ≡ false
eq_no m n h = grind (arith, nat_tests)

-- blocks that lie at different places have different copies
pub keys_apart : (quotas bases : List ℕ) (u v b c : ℕ) → b < quota_of quotas u → c < quota_of quotas v → base_of bases u + b ≢ base_of bases v + c → key quotas u b ≢ key quotas v c
keys_apart quotas bases u v b c one two apart = elim (cases_eq u v) [
  | inl same ↦
      let other : b ≢ c = λ e. apart (λ j. base_of bases (same j) + e j) in
      key_other_block quotas u v b c one two other
  | inr them ↦ key_other_user quotas u v b c one two them
]

pub sound_moves : (owners owners' : List ℕ) (slots slots' : List (Option ℕ)) (quotas bases sizes : List ℕ) (x b : ℕ)
    → IsImage bases owners slots quotas sizes → Moves owners owners' slots slots' quotas bases x b → 1 ≤ x → b < size_of sizes x
    → IsImage bases owners' slots' quotas sizes
sound_moves owners owners' slots slots' quotas bases sizes x b i m some below = record {
  places = m.len ∙ i.places;
  numbers = i.numbers;
  inside = i.inside;
  users = i.users;
  limit = i.limit;
  few = i.few;
  fits = i.fits;
  owned = λ u q here is. elim (cases_eq q (base_of bases x + b)) [
    | inl same ↦
        let e : u ≡ x = mine u q here is same in
        let k : size_of sizes u ≡ size_of sizes x = ap (λ (n : ℕ). size_of sizes n) e in
        let l : base_of bases u ≡ base_of bases x = ap (λ (n : ℕ). base_of bases n) e in
        (omega arith, omega arith)
    | inr other ↦ i.owned u q here (sym (m.owner q other) ∙ is)
  ];
  kept = λ u c r fits is. elim (cases_eq c b) [
    | inl same ↦ elim (cases_eq u x) [
      | inl me ↦ let k : size_of sizes u ≡ size_of sizes x = ap (λ (n : ℕ). size_of sizes n) me in omega arith
      | inr them ↦ i.kept u c r fits (sym (m.slot _ (key_other_user quotas u x c b fits mine_fits them)) ∙ is)
    ]
    | inr other ↦ i.kept u c r fits (sym (m.slot _ (key_other_block quotas u x c b fits mine_fits other)) ∙ is)
  ];
  apart = λ u c here is. elim (cases_eq (base_of bases u + c) (base_of bases x + b)) [
    | inl same ↦
        let e : u ≡ x = mine u (base_of bases u + c) here is same in
        let l : base_of bases u ≡ base_of bases x = ap (λ (n : ℕ). base_of bases n) e in
        let f : c ≡ b = omega arith in
        let own : owner_of owners' (base_of bases x + b) ≡ x = ap (λ (n : ℕ). owner_of owners' n) (sym same) ∙ is ∙ e in
        (λ j. slot_of slots' (key quotas (e j) (f j))) ∙ m.own own
    | inr other ↦
        let was = sym (m.owner (base_of bases u + c) other) ∙ is in
        let there = i.owned u (base_of bases u + c) here was in
        let fits : c < quota_of quotas u = omega (arith, there.1, i.fits u) in
        m.slot _ (keys_apart quotas bases u x c b fits mine_fits other) ∙ i.apart u c here was
  ];
}
  where
    mine_fits : b < quota_of quotas x
    mine_fits = omega (arith, i.fits x)

    mine : (u q : ℕ) → 1 ≤ u → owner_of owners' q ≡ u → q ≡ base_of bases x + b → u ≡ x
    mine u q here is same =
        let at : owner_of owners' (base_of bases x + b) ≡ u = ap (λ (n : ℕ). owner_of owners' n) (sym same) ∙ is in
        elim m.after [ inl none ↦ absurd (omega arith) | inr me ↦ sym at ∙ me ]

pub first_same : (n : ℕ) (f g : ℕ → List ℕ) → ((b : ℕ) → b < n → f b ≡ g b) → first n f ≡ first n g
first_same zero f g same = refl
first_same (suc n) f g same =
    let front = first_same n f g (λ b below. same b (omega arith)) in
    let last = same n (omega arith) in
    λ i. front i ++ last i ∷ []

-- the words move with the block
pub record MovesWords (blocks blocks' : ℕ → List ℕ) (all all' : List (Option (List ℕ))) (quotas bases : List ℕ) (x b : ℕ) : Type 0 where
  pub block : (q : ℕ) → q ≢ base_of bases x + b → blocks' q ≡ blocks q
  pub copy : (k : ℕ) → k ≢ key quotas x b → copy_of all' k ≡ copy_of all k

pub view_moves : (owners owners' : List ℕ) (slots slots' : List (Option ℕ)) (blocks blocks' : ℕ → List ℕ) (all all' : List (Option (List ℕ))) (quotas bases : List ℕ) (x b : ℕ)
    → Moves owners owners' slots slots' quotas bases x b → MovesWords blocks blocks' all all' quotas bases x b → b < quota_of quotas x
    → view blocks' bases owners' all' quotas x b ≡ view blocks bases owners all quotas x b
    → (u c : ℕ) → 1 ≤ u → c < quota_of quotas u → view blocks' bases owners' all' quotas u c ≡ view blocks bases owners all quotas u c
view_moves owners owners' slots slots' blocks blocks' all all' quotas bases x b m w mine_fits here u c some fits = elim (cases_eq (base_of bases u + c) (base_of bases x + b)) [
  | inl same ↦ elim (cases_eq u x) [
    | inl me ↦
        let l : base_of bases u ≡ base_of bases x = ap (λ (n : ℕ). base_of bases n) me in
        let f : c ≡ b = omega arith in
        (λ j. view blocks' bases owners' all' quotas (me j) (f j)) ∙ here ∙ (λ j. view blocks bases owners all quotas (sym me j) (sym f j))
    | inr them ↦
        let now : owner_of owners' (base_of bases u + c) ≢ u = not_mine owners' m.after same them in
        let was : owner_of owners (base_of bases u + c) ≢ u = not_mine owners m.before same them in
        let copy = w.copy _ (key_other_user quotas u x c b fits mine_fits them) in
        rw (eq_no _ _ now, eq_no _ _ was) (ap or_blank copy)
  ]
  | inr other ↦
      let owner = m.owner (base_of bases u + c) other in
      let block = w.block (base_of bases u + c) other in
      let copy = w.copy _ (keys_apart quotas bases u x c b fits mine_fits other) in
      λ j. if nat_eq (owner j) u then block j else or_blank (copy j)
]
  where
    not_mine : (o : List ℕ) → (owner_of o (base_of bases x + b) ≡ 0) ⊎ (owner_of o (base_of bases x + b) ≡ x) → base_of bases u + c ≡ base_of bases x + b → u ≢ x → owner_of o (base_of bases u + c) ≢ u
    not_mine o either same them is =
        let at : owner_of o (base_of bases x + b) ≡ u = ap (λ (n : ℕ). owner_of o n) (sym same) ∙ is in
        elim either [ inl none ↦ absurd (omega arith) | inr me ↦ them (sym at ∙ me) ]

-- nobody owns a block, and all sizes are 0
pub none_in : (n b : ℕ) → owner_of (replicate n 0) b ≡ 0
none_in zero b = refl
none_in (suc n) zero = refl
none_in (suc n) (suc b) = none_in n b

-- what images keep holds at first
pub sound_new : (bases owners : List ℕ) (slots : List (Option ℕ)) (quotas sizes : List ℕ) → bases ≡ replicate 31 0 → owners ≡ replicate 128 0 → ((k : ℕ) → slot_of slots k ≡ None)
    → sizes ≡ replicate (length quotas) 0 → length quotas ≤ 31 → ((u : ℕ) → quota_of quotas u ≤ 128) → IsImage bases owners slots quotas sizes
sound_new bases owners slots quotas sizes based none free small few limit = record {
  places = ap (λ (l : List ℕ). length l) none ∙ length-replicate {A = ℕ} 128 0;
  numbers = ap (λ (l : List ℕ). length l) based ∙ length-replicate {A = ℕ} 31 0;
  inside = λ u. let e : base_of bases u ≡ 0 = ap (λ (l : List ℕ). base_of l u) based ∙ none_in 31 u in omega arith;
  users = ap (λ (l : List ℕ). length l) small ∙ length-replicate (length quotas) 0;
  few = few;
  limit = limit;
  fits = λ u. omega (arith, size u);
  owned = λ u q some is. let e = owner q in absurd (omega arith);
  kept = λ u b r fits is. let e : None ≡ Some r = sym (free (key quotas u b)) ∙ is in absurd (cc);
  apart = λ u b some is. free (key quotas u b);
}
  where
    size : (u : ℕ) → size_of sizes u ≡ 0
    size u = ap (λ (l : List ℕ). size_of l u) small ∙ none_in (length quotas) u

    owner : (q : ℕ) → owner_of owners q ≡ 0
    owner q = ap (λ (l : List ℕ). owner_of l q) none ∙ none_in 128 q

-- a user that owns no place gets another base

pub sound_settled : (bases owners : List ℕ) (slots : List (Option ℕ)) (quotas sizes : List ℕ) (u base : ℕ) → IsImage bases owners slots quotas sizes
    → ((q : ℕ) → owner_of owners q ≢ u) → base < 128 → u < 31 → IsImage (slice_set bases u base) owners slots quotas sizes
sound_settled bases owners slots quotas sizes u base i none place number = record {
  places = i.places;
  numbers = length-set bases u base ∙ i.numbers;
  inside = λ v. elim (cases_eq v u) [
    | inl me ↦ let e : base_of (slice_set bases u base) v ≡ base = ap (λ (n : ℕ). base_of (slice_set bases u base) n) me ∙ get_or-set_same bases u base 0 (omega (arith, i.numbers)) in omega arith
    | inr them ↦ let e = based v them in omega (arith, i.inside v)
  ];
  users = i.users;
  few = i.few;
  limit = i.limit;
  fits = i.fits;
  owned = λ v q some is. let e = based v (other v q is) in let at = i.owned v q some is in (omega (arith, at.0), omega (arith, at.1));
  kept = i.kept;
  apart = λ v b some is.
      let e = based v (other v (base_of (slice_set bases u base) v + b) is) in
      i.apart v b some (ap (λ (n : ℕ). owner_of owners (n + b)) (sym e) ∙ is);
}
  where
    based : (v : ℕ) → v ≢ u → base_of (slice_set bases u base) v ≡ base_of bases v
    based v them = get_or-set_other bases u v base 0 them

    other : (v q : ℕ) → owner_of owners q ≡ v → v ≢ u
    other v q is same = none q (is ∙ same)

pub views_settled : (blocks : ℕ → List ℕ) (bases owners : List ℕ) (cs : Option (List (Option (List ℕ)))) (quotas : List ℕ) (u base n v : ℕ)
    → ((q : ℕ) → owner_of owners q ≢ u) → image_over blocks (slice_set bases u base) owners cs quotas n v ≡ image_over blocks bases owners cs quotas n v
views_settled blocks bases owners None quotas u base n v none = refl
views_settled blocks bases owners (Some all) quotas u base n v none = ap (λ (l : List (List ℕ)). Some l) (first_same n _ _ (λ b below. elim (cases_eq v u) [
  | inl me ↦
      let now : owner_of owners (base_of (slice_set bases u base) v + b) ≢ v = λ e. none _ (e ∙ me) in
      let was : owner_of owners (base_of bases v + b) ≢ v = λ e. none _ (e ∙ me) in
      rw (eq_no _ _ now, eq_no _ _ was) refl
  | inr them ↦
      let e : base_of (slice_set bases u base) v ≡ base_of bases v = get_or-set_other bases u v base 0 them in
      λ j. if nat_eq (owner_of owners (e j + b)) v then blocks (e j + b) else or_blank (copy_of all (key quotas v b))
]))

-- a user past the last has size 0
size_past : (sizes : List ℕ) (u : ℕ) → length sizes ≤ u → size_of sizes u ≡ 0
size_past [] u past = refl
size_past (x ∷ sizes) zero past = absurd (omega arith)
size_past (x ∷ sizes) (suc u) past = size_past sizes u (omega arith)

-- an owner is one of at most 30 users
pub owner_few : (bases owners : List ℕ) (slots : List (Option ℕ)) (quotas sizes : List ℕ) (q : ℕ) → IsImage bases owners slots quotas sizes → owner_of owners q ≤ 30
owner_few bases owners slots quotas sizes q i = elim (either_side (owner_of owners q) 31) [
  | inl inside ↦ omega arith
  | inr past ↦
      let some : 1 ≤ owner_of owners q = omega arith in
      let at = i.owned (owner_of owners q) q some refl in
      let none : size_of sizes (owner_of owners q) ≡ 0 = size_past sizes (owner_of owners q) (omega (arith, i.users, i.few)) in
      absurd (omega (arith, at.0, at.1))
]
  where
    either_side : (m n : ℕ) → (m < n) ⊎ (n ≤ m)
    either_side m n = grind arith
