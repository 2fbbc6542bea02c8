-- What the copies are after a call of the medium.
use Rattle.std.specs.Prelude.{Option, None, Some, slice_index_or, slice_set, map}
use Rattle.std.proofs.Common.{◌≡◌, ◌≢◌, ℕ, zero, suc, ◌<◌, List, [], ◌∷◌, length, refl, ◌∙◌, ap, arith, get_or-set_same, get_or-set_other}
use Rattle.std.proofs.lemmas.List.{map-set}
use Rattle.medium.specs.Medium.{with_record, ChangesOnly, HasShape}
use Rattle.drum_slots.specs.Slots.{slot_of}
use Rattle.drum_slots.specs.Kept.{words_of, copies, with_copy, ChangesCopy}

-- no copy lies in this record
abbrev pub Avoids : List (Option ℕ) → ℕ → Type 0
Avoids slots r = (j q : ℕ) → slot_of slots j ≡ Some q → q ≢ r

-- a record that no copy lies in may hold other words
same_words : (contents : List (List ℕ)) (r : ℕ) (ws : List ℕ) (slots : List (Option ℕ)) → Avoids slots r → map (words_of (slice_set contents r ws)) slots ≡ map (words_of contents) slots
same_words contents r ws [] away = refl
same_words contents r ws (None ∷ slots) away = ap (λ (l : List (Option (List ℕ))). None ∷ l) (same_words contents r ws slots (λ j q is. away (suc j) q is))
same_words contents r ws (Some q ∷ slots) away =
    let here = get_or-set_other contents r q ws [] (away 0 q refl) in
    let rest = same_words contents r ws slots (λ j p is. away (suc j) p is) in
    λ i. Some (here i) ∷ rest i

-- a record that no copy lies in may change
pub copies_else : (old new : Option (List (List ℕ))) (slots : List (Option ℕ)) (r : ℕ) (ws : List ℕ) → new ≡ with_record old r ws → Avoids slots r → copies new slots ≡ copies old slots
copies_else None new slots r ws is away = ap (λ (o : Option (List (List ℕ))). copies o slots) is
copies_else (Some contents) new slots r ws is away =
    ap (λ (o : Option (List (List ℕ))). copies o slots) is ∙ ap (λ (l : List (Option (List ℕ))). Some l) (same_words contents r ws slots away)

-- a free record takes a copy
pub copies_put : (old new : Option (List (List ℕ))) (slots : List (Option ℕ)) (k r n : ℕ) (ws : List ℕ) → new ≡ with_record old r ws → Avoids slots r
    → HasShape old n → r < n → copies new (slice_set slots k (Some r)) ≡ with_copy (copies old slots) k (Some ws)
copies_put None new slots k r n ws is away shape within = ap (λ (o : Option (List (List ℕ))). copies o (slice_set slots k (Some r))) is
copies_put (Some contents) new slots k r n ws is away shape within =
    let inside : r < length contents = omega arith in
    let here = get_or-set_same contents r ws [] inside in
    ap (λ (o : Option (List (List ℕ))). copies o (slice_set slots k (Some r))) is
    ∙ ap (λ (l : List (Option (List ℕ))). Some l)
    (map-set (words_of (slice_set contents r ws)) slots k (Some r)
    ∙ (λ i. slice_set (same_words contents r ws slots away i) k (Some (here i))))

-- a copy is given back
pub copies_drop : (contents : Option (List (List ℕ))) (slots : List (Option ℕ)) (k : ℕ) → copies contents (slice_set slots k None) ≡ with_copy (copies contents slots) k None
copies_drop None slots k = refl
copies_drop (Some contents) slots k = ap (λ (l : List (Option (List ℕ))). Some l) (map-set (words_of contents) slots k None)

-- where one copy lies in a record, other words there are other words of that copy
words_torn : (contents : List (List ℕ)) (slots : List (Option ℕ)) (k r : ℕ) (ws : List ℕ) → slot_of slots k ≡ Some r
    → ((j : ℕ) → slot_of slots j ≡ Some r → j ≡ k) → r < length contents
    → map (words_of (slice_set contents r ws)) slots ≡ slice_set (map (words_of contents) slots) k (Some ws)
words_torn contents [] k r ws is alone inside = cc
words_torn contents (None ∷ slots) zero r ws is alone inside = cc
words_torn contents (Some p ∷ slots) zero r ws is alone inside =
    let same : p ≡ r = cc in
    let here = ap (λ (n : ℕ). slice_index_or (slice_set contents r ws) n []) same ∙ get_or-set_same contents r ws [] inside in
    let away : Avoids slots r = λ j q at e. let at_head : suc j ≡ 0 = alone (suc j) (at ∙ ap (λ (n : ℕ). Some n) e) in absurd (omega arith) in
    let rest = same_words contents r ws slots away in
    λ i. Some (here i) ∷ rest i
words_torn contents (None ∷ slots) (suc k) r ws is alone inside =
    ap (λ (l : List (Option (List ℕ))). None ∷ l) (words_torn contents slots k r ws is (λ j at. let e : suc j ≡ suc k = alone (suc j) at in omega arith) inside)
words_torn contents (Some p ∷ slots) (suc k) r ws is alone inside =
    let other : p ≢ r = λ e. let at_head : 0 ≡ suc k = alone 0 (ap (λ (n : ℕ). Some n) e) in absurd (omega arith) in
    let here = get_or-set_other contents r p ws [] other in
    let rest = words_torn contents slots k r ws is (λ j at. let e : suc j ≡ suc k = alone (suc j) at in omega arith) inside in
    λ i. Some (here i) ∷ rest i

-- the record of a copy changes
pub copies_torn : (old new : Option (List (List ℕ))) (slots : List (Option ℕ)) (k r n : ℕ) → ChangesOnly old new r → slot_of slots k ≡ Some r
    → ((j : ℕ) → slot_of slots j ≡ Some r → j ≡ k) → HasShape old n → r < n → ChangesCopy (copies old slots) (copies new slots) k
copies_torn None new slots k r n changed is alone shape within = ([], ap (λ (o : Option (List (List ℕ))). copies o slots) changed.1)
copies_torn (Some contents) new slots k r n changed is alone shape within =
    let inside : r < length contents = omega arith in (
      changed.0,
      ap (λ (o : Option (List (List ℕ))). copies o slots) changed.1
          ∙ ap (λ (l : List (Option (List ℕ))). Some l) (words_torn contents slots k r changed.0 is alone inside),
    )
