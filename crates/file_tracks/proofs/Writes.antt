-- Words written into a file from one of its words on.
use Rattle.std.specs.Prelude.{Bool, true, take, drop, max, min, replicate}
use Rattle.std.specs.List.{All}
use Rattle.std.proofs.Common.{◌≡◌, ℕ, ◌+◌, ◌-◌, ◌*◌, ◌/◌, ◌<◌, ◌≤◌, List, [], ◌∷◌, ◌++◌, length, refl, sym, ◌∙◌, ap, arith, length-append, length-take, length-drop, append_assoc, inl, inr}
use Rattle.std.proofs.lemmas.Bool.{cases_lt}
use Rattle.std.proofs.lemmas.List.{take-append-drop, take-take, take_all, nil_from_length, length-replicate}
use Rattle.file_model.specs.Files.{overwritten, tracks_of_words}
use Rattle.file_map.proofs.Operations.{length-overwritten}
use Rattle.track_store.specs.Tracks.{is_taken}
use Rattle.track_store.specs.Words.{record_at, tracks_joined}
use Rattle.file_tracks.specs.Places.{count_in, bit}
use Rattle.file_tracks.proofs.Found.{all_taken}
use Rattle.file_tracks.proofs.Joined.{set_all, joined_same, joined_other, other_row, joined-append, joined-length}
use Rattle.file_tracks.proofs.Changes.{count_take, count_drop, count_split}
use Rattle.file_tracks.proofs.Overs.{over_mid, over_cut}

-- a part of tracks that are taken
pub part_taken : (taken : List Bool) (v : List ℕ) (a b : ℕ) → ((t : ℕ) → count_in t v ≤ bit taken t) → All (λ (t : ℕ). is_taken taken t ≡ true) (take b (drop a v))
part_taken taken v a b few = all_taken taken (take b (drop a v)) (λ t. let p = count_take t b (drop a v) in let q = count_drop t a v in let r = few t in omega (arith, p, q, r))

append-nil : (xs : List ℕ) → xs ++ [] ≡ xs
append-nil [] = refl
append-nil (x ∷ xs) = ap (λ (ys : List ℕ). x ∷ ys) (append-nil xs)

module _ (contents : List (List ℕ)) (ts v ws patch : List ℕ) (w place from to : ℕ)
    (whole : (t : ℕ) → 1 ≤ count_in t ts → length (record_at contents t) ≡ 432)
    (once : (t : ℕ) → count_in t v ≤ 1) (within : (t : ℕ) → 1 ≤ count_in t v → t < length contents)
    (front : take (length ts) v ≡ ts)
    (has : length ts ≡ tracks_of_words w) (len : length v ≡ tracks_of_words (max w (place + length ws)))
    (below : place ≤ w) (first : from ≡ place / 432) (last : to ≡ (place + length ws + 431) / 432)
    (long : length patch ≡ 432 * (to - from))
    (is : patch ≡ overwritten (place - 432 * from) ws (tracks_joined contents (take (min to (length ts) - from) (drop from ts)) ++ replicate (432 * (to - from) - 432 * length (take (min to (length ts) - from) (drop from ts))) 0)) where
  abbrev b : List ℕ
  b = take (to - from) (drop from v)

  abbrev contents' : List (List ℕ)
  contents' = set_all contents b patch

  abbrev c : List ℕ
  c = drop (to - from) (drop from v)

  abbrev m : List ℕ
  m = take (min to (length ts) - from) (drop from ts)

  abbrev z : List ℕ
  z = replicate (432 * (to - from) - 432 * length m) 0

  from_le : from ≤ length ts
  from_le = omega (arith, first, has, below)

  to_le : to ≤ length v
  to_le = omega (arith, last, len)

  from_to : from ≤ to
  from_to = omega (arith, first, last)

  -- the tracks before, written and behind
  front_is : take from v ≡ take from ts
  front_is = sym (take-take from (length ts) v from_le) ∙ ap (take from) front

  not_in : (t n : ℕ) → count_in t (take from v) + n ≤ 1 → 1 ≤ count_in t (take from v) → n ≡ 0
  not_in t n most some = omega (arith, most, some)

  before_same : tracks_joined contents' (take from v) ≡ tracks_joined contents (take from v)
  before_same = joined_other contents contents' (take from v) (λ t some.
      let p = count_split t from v in let q = count_take t (to - from) (drop from v) in let o = once t in
      other_row contents b patch t (omega (arith, p, q, o, some)))

  behind_same : tracks_joined contents' c ≡ tracks_joined contents c
  behind_same = joined_other contents contents' c (λ t some.
      let p = count_drop t from v in let q = count_split t (to - from) (drop from v) in let o = once t in
      other_row contents b patch t (omega (arith, p, q, o, some)))

  pub b_once : (t : ℕ) → count_in t b ≤ 1
  b_once t = let p = count_drop t from v in let q = count_take t (to - from) (drop from v) in let o = once t in omega (arith, p, q, o)

  pub b_within : (t : ℕ) → 1 ≤ count_in t b → t < length contents
  b_within t some = within t (let p = count_drop t from v in let q = count_take t (to - from) (drop from v) in omega (arith, p, q, some))

  pub b_long : length b ≡ to - from
  b_long = let p = length-take (to - from) (drop from v) in let q = length-drop from v in let t = to_le in omega (arith, p, q, t)

  here_is : tracks_joined contents' b ≡ patch
  here_is = joined_same contents b patch b_once b_within (long ∙ ap (λ (n : ℕ). 432 * n) (sym b_long))

  parts : tracks_joined contents' v ≡ tracks_joined contents (take from ts) ++ (patch ++ tracks_joined contents c)
  parts =
      ap (tracks_joined contents') (sym (take-append-drop from v) ∙ ap (λ (us : List ℕ). take from v ++ us) (sym (take-append-drop (to - from) (drop from v))))
      ∙ joined-append contents' (take from v) (b ++ c)
      ∙ (λ j. before_same j ++ joined-append contents' b c j)
      ∙ (λ j. tracks_joined contents (front_is j) ++ (here_is j ++ behind_same j))

  m_long : length m ≡ min to (length ts) - from
  m_long = let p = length-take (min to (length ts) - from) (drop from ts) in let q = length-drop from ts in omega (arith, p, q)

  part_whole : (a n : ℕ) (t : ℕ) → 1 ≤ count_in t (take n (drop a ts)) → length (record_at contents t) ≡ 432
  part_whole a n t some = whole t (let p = count_take t n (drop a ts) in let q = count_drop t a ts in omega (arith, p, q, some))

  front_long : length (tracks_joined contents (take from ts)) ≡ 432 * from
  front_long =
      joined-length contents (take from ts) (λ t some. whole t (let p = count_take t from ts in omega (arith, p, some)))
      ∙ ap (λ (n : ℕ). 432 * n) (let p = length-take from ts in let f = from_le in let e : length (take from ts) ≡ from = omega (arith, p, f) in e)

  x_long : length (tracks_joined contents m ++ z) ≡ 432 * (to - from)
  x_long =
      let p = length-append (tracks_joined contents m) z in
      let q = joined-length contents m (part_whole from (min to (length ts) - from)) in
      let r = length-replicate {A = ℕ} (432 * (to - from) - 432 * length m) 0 in
      let l = m_long in
      omega (arith, p, q, r, l)

  all_words : tracks_joined contents (take from ts) ++ ((tracks_joined contents m ++ z) ++ tracks_joined contents c) ≡ tracks_joined contents ts ++ z
  all_words = elim (cases_lt (length ts) to) [
    | inl past ↦
        let none : c ≡ [] = nil_from_length c (let p = length-drop (to - from) (drop from v) in let q = length-drop from v in omega (arith, p, q, len, has, last, past, below)) in
        let rest : m ≡ drop from ts = ap (λ (n : ℕ). take n (drop from ts)) (let e : min to (length ts) - from ≡ length ts - from = omega (arith, past) in e) ∙ take_all (length ts - from) (drop from ts) (let q = length-drop from ts in omega (arith, q)) in
        (λ j. tracks_joined contents (take from ts) ++ ((tracks_joined contents m ++ z) ++ tracks_joined contents (none j)))
        ∙ ap (λ (xs : List ℕ). tracks_joined contents (take from ts) ++ xs) (append-nil (tracks_joined contents m ++ z))
        ∙ sym (append_assoc (tracks_joined contents (take from ts)) (tracks_joined contents m) z)
        ∙ ap (λ (xs : List ℕ). xs ++ z) (ap (λ (us : List ℕ). tracks_joined contents (take from ts) ++ tracks_joined contents us) rest ∙ sym (joined-append contents (take from ts) (drop from ts)) ∙ ap (tracks_joined contents) (take-append-drop from ts))
    | inr within_ts ↦
        let same : v ≡ ts = sym (take_all (length ts) v (omega (arith, len, has, last, below, within_ts))) ∙ front in
        let empty : z ≡ [] = nil_from_length z (length-replicate {A = ℕ} (432 * (to - from) - 432 * length m) 0 ∙ (let l = m_long in let e : 432 * (to - from) - 432 * length m ≡ 0 = omega (arith, l, within_ts) in e)) in
        let mid : m ≡ take (to - from) (drop from ts) = ap (λ (n : ℕ). take n (drop from ts)) (let e : min to (length ts) - from ≡ to - from = omega (arith, within_ts) in e) in
        (λ j. tracks_joined contents (take from ts) ++ ((tracks_joined contents m ++ empty j) ++ tracks_joined contents (drop (to - from) (drop from (same j)))))
        ∙ ap (λ (xs : List ℕ). tracks_joined contents (take from ts) ++ (xs ++ tracks_joined contents (drop (to - from) (drop from ts)))) (append-nil (tracks_joined contents m) ∙ ap (tracks_joined contents) mid)
        ∙ ap (λ (xs : List ℕ). tracks_joined contents (take from ts) ++ xs) (sym (joined-append contents (take (to - from) (drop from ts)) (drop (to - from) (drop from ts))) ∙ ap (tracks_joined contents) (take-append-drop (to - from) (drop from ts)))
        ∙ sym (joined-append contents (take from ts) (drop from ts)) ∙ ap (tracks_joined contents) (take-append-drop from ts)
        ∙ sym (append-nil (tracks_joined contents ts)) ∙ ap (λ (xs : List ℕ). tracks_joined contents ts ++ xs) (sym empty)
  ]

  pub written_content : take (max w (place + length ws)) (tracks_joined (set_all contents (take (to - from) (drop from v)) patch) v) ≡ overwritten place ws (take w (tracks_joined contents ts))
  written_content =
      let enough : w ≤ length (tracks_joined contents ts) = (let p = joined-length contents ts whole in omega (arith, p, has)) in
      let at : place ≡ length (tracks_joined contents (take from ts)) + (place - 432 * from) = (let p = front_long in omega (arith, p, first)) in
      let fits : (place - 432 * from) + length ws ≤ length (tracks_joined contents m ++ z) = (let p = x_long in let o = from_to in omega (arith, p, first, last, o)) in
      ap (take (max w (place + length ws)))
      (parts
      ∙ ap (λ (xs : List ℕ). tracks_joined contents (take from ts) ++ (xs ++ tracks_joined contents c)) is
      ∙ over_mid (tracks_joined contents (take from ts)) (tracks_joined contents m ++ z) (tracks_joined contents c) ws place (place - 432 * from) at fits
      ∙ ap (overwritten place ws) all_words)
      ∙ over_cut (tracks_joined contents ts) z ws w place (max w (place + length ws) - (place + length ws)) enough below (omega arith)

  -- a track of the file is an old one, or one of those that are written
  pub in_part : (t : ℕ) → count_in t v ≤ count_in t ts + count_in t (take (to - from) (drop from v))
  in_part t = elim (cases_lt (length ts) to) [
    | inl past ↦
        let none : c ≡ [] = nil_from_length c (let p = length-drop (to - from) (drop from v) in let q = length-drop from v in omega (arith, p, q, len, has, last, past, below)) in
        let zero : count_in t c ≡ 0 = ap (count_in t) none in
        let p = count_split t from v in
        let q = count_split t (to - from) (drop from v) in
        let r = ap (count_in t) front_is in
        let s = count_take t from ts in
        omega (arith, p, q, r, s, zero)
    | inr within_ts ↦
        let same : v ≡ ts = sym (take_all (length ts) v (omega (arith, len, has, last, below, within_ts))) ∙ front in
        let e = ap (count_in t) same in
        omega (arith, e)
  ]

-- words laid over kept tracks and zeros fill the tracks that are written
module _ (contents : List (List ℕ)) (ts ws : List ℕ) (place from to : ℕ) (whole : (t : ℕ) → 1 ≤ count_in t ts → length (record_at contents t) ≡ 432)
    (first : from ≡ place / 432) (last : to ≡ (place + length ws + 431) / 432) where
  abbrev mm : List ℕ
  mm = take (min to (length ts) - from) (drop from ts)

  abbrev under : List ℕ
  under = tracks_joined contents mm ++ replicate (432 * (to - from) - 432 * length mm) 0

  under_long : length under ≡ 432 * (to - from)
  under_long =
      let p = length-append (tracks_joined contents mm) (replicate (432 * (to - from) - 432 * length mm) 0) in
      let q = joined-length contents mm (λ t some. whole t (let a = count_take t (min to (length ts) - from) (drop from ts) in let b = count_drop t from ts in omega (arith, a, b, some))) in
      let r = length-replicate {A = ℕ} (432 * (to - from) - 432 * length mm) 0 in
      let l = length-take (min to (length ts) - from) (drop from ts) in
      omega (arith, p, q, r, l)

  pub patch_long : length (overwritten (place - 432 * from) ws (tracks_joined contents (take (min to (length ts) - from) (drop from ts)) ++ replicate (432 * (to - from) - 432 * length (take (min to (length ts) - from) (drop from ts))) 0)) ≡ 432 * (to - from)
  patch_long =
      let p = under_long in
      let inside : place - 432 * from ≤ length under = omega (arith, p, first, last) in
      let l = length-overwritten (place - 432 * from) ws under inside in
      omega (arith, l, p, first, last)
