-- A user that gives up blocks from one on: what an image keeps, and every user's own core.
use Rattle.std.specs.Prelude.{Option, None, Some, slice_index_or, slice_set, map, replicate, ◌-◌}
use Rattle.std.proofs.Common.{◌≡◌, ◌≢◌, ◌⊎◌, inl, inr, ℕ, zero, suc, ◌+◌, ◌<◌, ◌≤◌, List, [], ◌∷◌, ◌++◌, length, take, refl, sym, ◌∙◌, ap, subst, arith, get_or-set_same, get_or-set_other, length-set, length-append, append_assoc, add-one}
use Rattle.std.proofs.Math.ListN.{get_or-map}
use Rattle.std.proofs.lemmas.Bool.{cases_eq}
use Rattle.std.proofs.lemmas.List.{append-nil, take_all, take_more, replicate_more, get_or_push, get_or_append_left}
use Rattle.drum_slots.specs.Keys.{quota_of, key}
use Rattle.drum_slots.specs.Slots.{slot_of}
use Rattle.drum_slots.specs.Kept.{copies, words_of}
use Rattle.drum_slots.proofs.Keys.{key_other_block, key_other_user}
use Rattle.image_map.specs.Blocks.{first}
use Rattle.image_map.specs.Images.{size_of, or_blank, copy_of, view, image_over, IsImage, resized}
use Rattle.onion_swap.specs.Places.{owner_of, base_of}
use Rattle.core_bank.specs.Bank.{blank}
use Rattle.image_map.proofs.Moves.{eq_yes, eq_no, first_same}

-- a user gives up its blocks and copies from block m on
pub record GivesUp (owners owners' : List ℕ) (slots slots' : List (Option ℕ)) (quotas bases : List ℕ) (x m : ℕ) : Type 0 where
  pub len : length owners' ≡ length owners
  pub owner_gone : (q : ℕ) → base_of bases x + m ≤ q → owner_of owners q ≡ x → owner_of owners' q ≡ 0
  pub owner_others : (q : ℕ) → owner_of owners q ≢ x → owner_of owners' q ≡ owner_of owners q
  pub owner_below : (q : ℕ) → q < base_of bases x + m → owner_of owners' q ≡ owner_of owners q
  pub slot_gone : (b : ℕ) → m ≤ b → b < quota_of quotas x → slot_of slots' (key quotas x b) ≡ None
  pub slot_others : (k : ℕ) → ((b : ℕ) → m ≤ b → b < quota_of quotas x → k ≢ key quotas x b) → slot_of slots' k ≡ slot_of slots k

below_or : (b m : ℕ) → (b < m) ⊎ (m ≤ b)
below_or b m = grind arith

-- an owner was the owner before
pub was : (owners owners' : List ℕ) (slots slots' : List (Option ℕ)) (quotas bases : List ℕ) (x m q u : ℕ) → GivesUp owners owners' slots slots' quotas bases x m → 1 ≤ u
    → owner_of owners' q ≡ u → owner_of owners q ≡ u
was owners owners' slots slots' quotas bases x m q u g some is = elim (cases_eq (owner_of owners q) x) [
  | inl mine ↦ elim (below_or q (base_of bases x + m)) [
    | inl under ↦ sym (g.owner_below q under) ∙ is
    | inr over ↦ let none = g.owner_gone q over mine in absurd (omega arith)
  ]
  | inr other ↦ sym (g.owner_others q other) ∙ is
]

-- a copy that is not given up lies where it lay
pub stays : (owners owners' : List ℕ) (slots slots' : List (Option ℕ)) (quotas bases : List ℕ) (x m b u : ℕ) → GivesUp owners owners' slots slots' quotas bases x m
    → b < quota_of quotas u → (u ≢ x) ⊎ (b < m) → slot_of slots' (key quotas u b) ≡ slot_of slots (key quotas u b)
stays owners owners' slots slots' quotas bases x m b u g fits either = g.slot_others (key quotas u b) (λ c over mine. elim either [
  | inl them ↦ key_other_user quotas u x b c fits mine them
  | inr under ↦ let other : b ≢ c = λ e. absurd (omega arith) in key_other_block quotas u x b c fits mine other
])

-- nor does a place that is not given up change its owner
owner_stays : (owners owners' : List ℕ) (slots slots' : List (Option ℕ)) (quotas bases : List ℕ) (x m b u : ℕ) → GivesUp owners owners' slots slots' quotas bases x m
    → (u ≢ x) ⊎ (b < m) → owner_of owners (base_of bases u + b) ≡ u → owner_of owners' (base_of bases u + b) ≡ u
owner_stays owners owners' slots slots' quotas bases x m b u g either mine = elim (cases_eq u x) [
  | inl me ↦ elim either [
    | inl them ↦ absurd (them me)
    | inr under ↦
        let l : base_of bases u ≡ base_of bases x = ap (λ (n : ℕ). base_of bases n) me in
        g.owner_below (base_of bases u + b) (omega arith) ∙ mine
  ]
  | inr them ↦ let other : owner_of owners (base_of bases u + b) ≢ x = λ e. them (sym mine ∙ e) in g.owner_others (base_of bases u + b) other ∙ mine
]

size_mine : (sizes : List ℕ) (x m : ℕ) → x < length sizes → size_of (slice_set sizes x m) x ≡ m
size_mine sizes x m within = get_or-set_same sizes x m 0 within

size_other : (sizes : List ℕ) (x m u : ℕ) → u ≢ x → size_of (slice_set sizes x m) u ≡ size_of sizes u
size_other sizes x m u other = get_or-set_other sizes x u m 0 other

-- the words of a copy, where records are told
copy_at : (contents : List (List ℕ)) (slots : List (Option ℕ)) (k : ℕ) → copy_of (map (words_of contents) slots) k ≡ words_of contents (slot_of slots k)
copy_at contents slots k = get_or-map (words_of contents) slots k None

view_stays : (owners owners' : List ℕ) (slots slots' : List (Option ℕ)) (quotas bases : List ℕ) (x m : ℕ) (blocks : ℕ → List ℕ) (contents : List (List ℕ)) (u b : ℕ)
    → GivesUp owners owners' slots slots' quotas bases x m → 1 ≤ u → b < quota_of quotas u → (u ≢ x) ⊎ (b < m)
    → view blocks bases owners' (map (words_of contents) slots') quotas u b ≡ view blocks bases owners (map (words_of contents) slots) quotas u b
view_stays owners owners' slots slots' quotas bases x m blocks contents u b g some fits either =
    let slot = stays owners owners' slots slots' quotas bases x m b u g fits either in
    let copy : copy_of (map (words_of contents) slots') (key quotas u b) ≡ copy_of (map (words_of contents) slots) (key quotas u b) =
    copy_at contents slots' (key quotas u b) ∙ ap (words_of contents) slot ∙ sym (copy_at contents slots (key quotas u b)) in
    elim (cases_eq (owner_of owners (base_of bases u + b)) u) [
      | inl mine ↦
          let now = owner_stays owners owners' slots slots' quotas bases x m b u g either mine in
          rw (eq_yes _ _ now, eq_yes _ _ mine) refl
      | inr other ↦
          let now : owner_of owners' (base_of bases u + b) ≢ u = λ e. other (was owners owners' slots slots' quotas bases x m (base_of bases u + b) u g some e) in
          rw (eq_no _ _ now, eq_no _ _ other) (ap or_blank copy)
    ]

-- others' cores stay
pub core_stays : (owners owners' : List ℕ) (slots slots' : List (Option ℕ)) (quotas bases sizes : List ℕ) (x m : ℕ) (blocks : ℕ → List ℕ) (contents : Option (List (List ℕ))) (u : ℕ)
    → GivesUp owners owners' slots slots' quotas bases x m → IsImage bases owners slots quotas sizes → 1 ≤ u → u ≢ x
    → image_over blocks bases owners' (copies contents slots') quotas (size_of (slice_set sizes x m) u) u ≡ image_over blocks bases owners (copies contents slots) quotas (size_of sizes u) u
core_stays owners owners' slots slots' quotas bases sizes x m blocks None u g i some them = refl
core_stays owners owners' slots slots' quotas bases sizes x m blocks (Some contents) u g i some them =
    ap (λ (n : ℕ). image_over blocks bases owners' (copies (Some contents) slots') quotas n u) (size_other sizes x m u them)
    ∙ ap (λ (l : List (List ℕ)). Some l) (first_same (size_of sizes u) _ _ (λ b below.
    view_stays owners owners' slots slots' quotas bases x m blocks contents u b g some (omega (arith, i.fits u)) (inl them)))

length_first : (n : ℕ) (f : ℕ → List ℕ) → length (first n f) ≡ n
length_first zero f = refl
length_first (suc n) f = length-append (first n f) (f n ∷ []) ∙ omega (arith, length_first n f)

pub get_first : (n : ℕ) (f : ℕ → List ℕ) (b : ℕ) → b < n → slice_index_or (first n f) b [] ≡ f b
get_first zero f b below = absurd (omega arith)
get_first (suc n) f b below = elim (cases_eq b n) [
  | inl same ↦ get_or_push (first n f) (f n) [] b (length_first n f ∙ sym same) ∙ ap f (sym same)
  | inr other ↦ get_or_append_left (first n f) (f n ∷ []) [] b (omega (arith, length_first n f)) ∙ get_first n f b (omega arith)
]

pub first_resize : (n m : ℕ) (f g : ℕ → List ℕ) → ((b : ℕ) → b < m → b < n → g b ≡ f b) → ((b : ℕ) → b < m → n ≤ b → g b ≡ blank)
    → first m g ≡ take m (first n f) ++ replicate (m - n) blank
first_resize n zero f g same fresh = let e : 0 - n ≡ 0 = omega arith in rw e refl
first_resize n (suc m) f g same fresh =
    let rest = first_resize n m f g (λ b under inside. same b (omega arith) inside) (λ b under over. fresh b (omega arith) over) in
    let len = length_first n f in
    elim (below_or m n) [
      | inl inside ↦
          let none : m - n ≡ 0 = omega arith in
          let none2 : suc m - n ≡ 0 = omega arith in
          let more : take (m + 1) (first n f) ≡ take m (first n f) ++ slice_index_or (first n f) m [] ∷ [] = take_more (first n f) m [] (omega arith) in
          let last : g m ≡ slice_index_or (first n f) m [] = same m (omega arith) inside ∙ sym (get_first n f m inside) in
          ap (λ (l : List (List ℕ)). l ++ g m ∷ []) (rest ∙ ap (λ (k : ℕ). take m (first n f) ++ replicate k blank) none ∙ append-nil (take m (first n f)))
          ∙ ap (λ (w : List ℕ). take m (first n f) ++ w ∷ []) last
          ∙ sym more ∙ ap (λ (k : ℕ). take k (first n f)) (add-one m)
          ∙ sym (append-nil (take (suc m) (first n f))) ∙ ap (λ (k : ℕ). take (suc m) (first n f) ++ replicate k blank) (sym none2)
      | inr over ↦
          let step : suc m - n ≡ m - n + 1 = omega arith in
          let one : take m (first n f) ≡ first n f = take_all m (first n f) (omega arith) in
          let two : take (suc m) (first n f) ≡ first n f = take_all (suc m) (first n f) (omega arith) in
          ap (λ (l : List (List ℕ)). l ++ g m ∷ []) rest
          ∙ ap (λ (w : List ℕ). (take m (first n f) ++ replicate (m - n) blank) ++ w ∷ []) (fresh m (omega arith) over)
          ∙ append_assoc (take m (first n f)) (replicate (m - n) blank) (blank ∷ [])
          ∙ ap (λ (l : List (List ℕ)). take m (first n f) ++ l) (replicate_more (m - n) blank)
          ∙ (λ j. (one ∙ sym two) j ++ replicate (sym step j) blank)
    ]

none_from : (o : Option ℕ) → ((r : ℕ) → o ≡ Some r → ⊥) → o ≡ None
none_from None never = refl
none_from (Some r) never = absurd (never r refl)

-- the user's own core is cut, or extended by plus zeros
pub core_resized : (owners owners' : List ℕ) (slots slots' : List (Option ℕ)) (quotas bases sizes : List ℕ) (x m : ℕ) (blocks : ℕ → List ℕ) (contents : Option (List (List ℕ)))
    → GivesUp owners owners' slots slots' quotas bases x m → IsImage bases owners slots quotas sizes → 1 ≤ x → x < length sizes → m ≤ quota_of quotas x
    → image_over blocks bases owners' (copies contents slots') quotas (size_of (slice_set sizes x m) x) x
    ≡ resized (size_of sizes x) m (image_over blocks bases owners (copies contents slots) quotas (size_of sizes x) x)
core_resized owners owners' slots slots' quotas bases sizes x m blocks None g i some within fits = refl
core_resized owners owners' slots slots' quotas bases sizes x m blocks (Some contents) g i some within fits =
    ap (λ (n : ℕ). image_over blocks bases owners' (copies (Some contents) slots') quotas n x) (size_mine sizes x m within)
    ∙ ap (λ (l : List (List ℕ)). Some l) (first_resize (size_of sizes x) m _ _
    (λ b under inside. view_stays owners owners' slots slots' quotas bases x m blocks contents x b g some (omega arith) (inr under))
    (λ b under over.
    let mine : b < quota_of quotas x = omega arith in
    let none : slot_of slots (key quotas x b) ≡ None = none_from _ (λ r is. let k = i.kept x b r mine is in absurd (omega arith)) in
    let gone = stays owners owners' slots slots' quotas bases x m b x g mine (inr under) ∙ none in
    let other : owner_of owners' (base_of bases x + b) ≢ x = λ e. let k = i.owned x (base_of bases x + b) some (was owners owners' slots slots' quotas bases x m (base_of bases x + b) x g some e) in absurd (omega (arith, k.1)) in
    rw (eq_no _ _ other) (ap or_blank (copy_at contents slots' (key quotas x b) ∙ ap (words_of contents) gone))))

-- what an image keeps
pub sound_resized : (owners owners' : List ℕ) (slots slots' : List (Option ℕ)) (quotas bases sizes : List ℕ) (x m : ℕ)
    → GivesUp owners owners' slots slots' quotas bases x m → IsImage bases owners slots quotas sizes → x < length sizes → m ≤ quota_of quotas x
    → IsImage bases owners' slots' quotas (slice_set sizes x m)
sound_resized owners owners' slots slots' quotas bases sizes x m g i number few = record {
  places = g.len ∙ i.places;
  numbers = i.numbers;
  inside = i.inside;
  users = length-set sizes x m ∙ i.users;
  few = i.few;
  limit = i.limit;
  fits = λ u. elim (cases_eq u x) [
    | inl me ↦
        let size = size_me u me in
        let quota : quota_of quotas u ≡ quota_of quotas x = ap (λ (n : ℕ). quota_of quotas n) me in
        omega arith
    | inr them ↦ let size = size_other sizes x m u them in omega (arith, i.fits u)
  ];
  owned = λ u q some is.
      let mine = was owners owners' slots slots' quotas bases x m q u g some is in
      let at = i.owned u q some mine in (
        at.0,
        elim (cases_eq u x) [
          | inl me ↦
              let size = size_me u me in
              let base : base_of bases u ≡ base_of bases x = ap (λ (n : ℕ). base_of bases n) me in
              elim (below_or q (base_of bases x + m)) [
                | inl under ↦ omega arith
                | inr over ↦ let gone = g.owner_gone q over (mine ∙ me) in absurd (omega arith)
              ]
          | inr them ↦ let size = size_other sizes x m u them in omega (arith, at.1)
        ],
      );
  kept = λ u c r fits is. elim (cases_eq u x) [
    | inl me ↦
        let size = size_me u me in
        elim (below_or c m) [
          | inl under ↦ omega arith
          | inr over ↦
              let fits_x : c < quota_of quotas x = subst (λ (n : ℕ). c < quota_of quotas n) me fits in
              let e : None ≡ Some r = sym (g.slot_gone c over fits_x) ∙ ap (λ (n : ℕ). slot_of slots' (key quotas n c)) (sym me) ∙ is in
              absurd (cc)
        ]
    | inr them ↦
        let size = size_other sizes x m u them in
        let old = i.kept u c r fits (sym (stays owners owners' slots slots' quotas bases x m c u g fits (inl them)) ∙ is) in
        omega arith
  ];
  apart = λ u c some is.
      let mine = was owners owners' slots slots' quotas bases x m (base_of bases u + c) u g some is in
      let at = i.owned u (base_of bases u + c) some mine in
      let fits : c < quota_of quotas u = omega (arith, at.1, i.fits u) in
      elim (cases_eq u x) [
        | inl me ↦ elim (below_or c m) [
          | inl under ↦ stays owners owners' slots slots' quotas bases x m c u g fits (inr under) ∙ i.apart u c some mine
          | inr over ↦
              let fits_x : c < quota_of quotas x = subst (λ (n : ℕ). c < quota_of quotas n) me fits in
              ap (λ (n : ℕ). slot_of slots' (key quotas n c)) me ∙ g.slot_gone c over fits_x
        ]
        | inr them ↦ stays owners owners' slots slots' quotas bases x m c u g fits (inl them) ∙ i.apart u c some mine
      ];
}
  where
    size_me : (u : ℕ) → u ≡ x → size_of (slice_set sizes x m) u ≡ m
    size_me u me = ap (λ (n : ℕ). size_of (slice_set sizes x m) n) me ∙ size_mine sizes x m number
