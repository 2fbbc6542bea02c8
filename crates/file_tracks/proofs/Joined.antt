-- Words of tracks, after words were written into some.
use Rattle.std.specs.Prelude.{Some, Bool, take, drop, if◌then◌else◌, slice_set}
use Rattle.std.proofs.Common.{◌≡◌, ◌≢◌, ℕ, suc, ◌+◌, ◌-◌, ◌*◌, ◌<◌, ◌≤◌, List, [], ◌∷◌, ◌++◌, length, refl, sym, ◌∙◌, ap, arith, length-set, length-drop, length-append, append_assoc, get_or-set_same, get_or-set_other, eq-eqb, ne_eqb, inl, inr}
use Rattle.std.proofs.lemmas.Bool.{cases_eq}
use Rattle.std.proofs.lemmas.List.{take-append-drop, nil_from_length, length-take-le}
use Rattle.track_store.specs.Words.{record_at, tracks_joined, with_words}
use Rattle.file_tracks.specs.Places.{count_in}

-- records with words written into these tracks
abbrev pub set_all : List (List ℕ) → List ℕ → List ℕ → List (List ℕ)
set_all contents [] ws = contents
set_all contents (t ∷ ts) ws = set_all (slice_set contents t (take 432 ws)) ts (drop 432 ws)

pub with_words_is : (contents : List (List ℕ)) (ts ws : List ℕ) → with_words (Some contents) ts ws ≡ Some (set_all contents ts ws)
with_words_is contents [] ws = refl
with_words_is contents (t ∷ ts) ws = with_words_is (slice_set contents t (take 432 ws)) ts (drop 432 ws)

pub head_here : (x : ℕ) (xs : List ℕ) → count_in x (x ∷ xs) ≡ suc (count_in x xs)
head_here x xs = ap (λ (b : Bool). (if b then 1 else 0) + count_in x xs) (eq-eqb x x refl) ∙ (let e : 1 + count_in x xs ≡ suc (count_in x xs) = omega arith in e)

-- a track that isn't there differs from the head, and isn't in the rest
pub not_head : (x t : ℕ) (xs : List ℕ) → count_in t (x ∷ xs) ≡ 0 → x ≢ t
not_head x t xs h e = let g = head_here x xs in let k : count_in x (x ∷ xs) ≡ 0 = ap (λ (n : ℕ). count_in n (x ∷ xs)) e ∙ h in omega (arith, g, k)

pub in_rest : (x t : ℕ) (xs : List ℕ) → count_in t xs ≤ count_in t (x ∷ xs)
in_rest x t xs = omega arith

pub other_row : (contents : List (List ℕ)) (ts ws : List ℕ) (t : ℕ) → count_in t ts ≡ 0 → record_at (set_all contents ts ws) t ≡ record_at contents t
other_row contents [] ws t h = refl
other_row contents (x ∷ ts) ws t h =
    let k = in_rest x t ts in
    other_row (slice_set contents x (take 432 ws)) ts (drop 432 ws) t (omega (arith, k, h))
    ∙ get_or-set_other contents x t (take 432 ws) [] (λ e. not_head x t ts h (sym e))

pub joined_other : (contents contents' : List (List ℕ)) (ts : List ℕ) → ((t : ℕ) → 1 ≤ count_in t ts → record_at contents' t ≡ record_at contents t) → tracks_joined contents' ts ≡ tracks_joined contents ts
joined_other contents contents' [] h = refl
joined_other contents contents' (x ∷ ts) h =
    let here = head_here x ts in
    (λ j. h x (omega (arith, here)) j ++ joined_other contents contents' ts (λ t some. h t (let k = in_rest x t ts in omega (arith, k, some))) j)

-- the rest of a list of tracks that differ
rest_once : (x : ℕ) (ts : List ℕ) → ((t : ℕ) → count_in t (x ∷ ts) ≤ 1) → count_in x ts ≡ 0
rest_once x ts once = let a = once x in let b = head_here x ts in omega (arith, a, b)

rest_len : (k n : ℕ) → k ≡ 432 * suc n → 432 ≤ k
rest_len k n e = omega arith

rest_len_too : (k n : ℕ) → k ≡ 432 * suc n → k - 432 ≡ 432 * n
rest_len_too k n e = omega arith

pub joined_same : (contents : List (List ℕ)) (ts ws : List ℕ) → ((t : ℕ) → count_in t ts ≤ 1) → ((t : ℕ) → 1 ≤ count_in t ts → t < length contents) → length ws ≡ 432 * length ts
    → tracks_joined (set_all contents ts ws) ts ≡ ws
joined_same contents [] ws once within len = sym (nil_from_length ws len)
joined_same contents (x ∷ ts) ws once within len =
    let here = head_here x ts in
    let inside : x < length contents = within x (omega (arith, here)) in
    let first : record_at (set_all contents (x ∷ ts) ws) x ≡ take 432 ws =
    other_row (slice_set contents x (take 432 ws)) ts (drop 432 ws) x (rest_once x ts once) ∙ get_or-set_same contents x (take 432 ws) [] inside in
    let more : tracks_joined (set_all contents (x ∷ ts) ws) ts ≡ drop 432 ws =
    joined_same (slice_set contents x (take 432 ws)) ts (drop 432 ws)
    (λ t. let a = once t in let b = in_rest x t ts in omega (arith, a, b))
    (λ t some. let a = within t (let b = in_rest x t ts in omega (arith, b, some)) in let l = length-set contents x (take 432 ws) in omega (arith, a, l))
    (length-drop 432 ws ∙ rest_len_too (length ws) (length ts) len) in
    (λ j. first j ++ more j) ∙ take-append-drop 432 ws

pub whole_rows : (contents : List (List ℕ)) (ts ws : List ℕ) → ((t : ℕ) → count_in t ts ≤ 1) → ((t : ℕ) → 1 ≤ count_in t ts → t < length contents) → length ws ≡ 432 * length ts
    → (t : ℕ) → 1 ≤ count_in t ts → length (record_at (set_all contents ts ws) t) ≡ 432
whole_rows contents [] ws once within len t some = absurd (omega arith)
whole_rows contents (x ∷ ts) ws once within len t some = elim (cases_eq t x) [
  | inl same ↦
      let here = head_here x ts in
      let inside : x < length contents = within x (omega (arith, here)) in
      ap (λ (n : ℕ). length (record_at (set_all contents (x ∷ ts) ws) n)) same
      ∙ ap length (other_row (slice_set contents x (take 432 ws)) ts (drop 432 ws) x (rest_once x ts once) ∙ get_or-set_same contents x (take 432 ws) [] inside)
      ∙ length-take-le 432 ws (rest_len (length ws) (length ts) len)
  | inr other ↦
      let there : count_in t (x ∷ ts) ≡ count_in t ts = ap (λ (b : Bool). (if b then 1 else 0) + count_in t ts) (ne_eqb x t (λ e. other (sym e))) ∙ (let e : 0 + count_in t ts ≡ count_in t ts = omega arith in e) in
      whole_rows (slice_set contents x (take 432 ws)) ts (drop 432 ws)
      (λ u. let a = once u in let b = in_rest x u ts in omega (arith, a, b))
      (λ u s. let a = within u (let b = in_rest x u ts in omega (arith, b, s)) in let l = length-set contents x (take 432 ws) in omega (arith, a, l))
      (length-drop 432 ws ∙ rest_len_too (length ws) (length ts) len) t (omega (arith, there, some))
]

pub joined-append : (contents : List (List ℕ)) (ts us : List ℕ) → tracks_joined contents (ts ++ us) ≡ tracks_joined contents ts ++ tracks_joined contents us
joined-append contents [] us = refl
joined-append contents (t ∷ ts) us = ap (λ (ws : List ℕ). record_at contents t ++ ws) (joined-append contents ts us) ∙ sym (append_assoc (record_at contents t) (tracks_joined contents ts) (tracks_joined contents us))

-- whole tracks have 432 words each
pub joined-length : (contents : List (List ℕ)) (ts : List ℕ) → ((t : ℕ) → 1 ≤ count_in t ts → length (record_at contents t) ≡ 432) → length (tracks_joined contents ts) ≡ 432 * length ts
joined-length contents [] h = refl
joined-length contents (x ∷ ts) h =
    let here = head_here x ts in
    let a = h x (omega (arith, here)) in
    let b = joined-length contents ts (λ t some. h t (let k = in_rest x t ts in omega (arith, k, some))) in
    let c = length-append (record_at contents x) (tracks_joined contents ts) in
    omega (arith, a, b, c)
