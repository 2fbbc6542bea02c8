-- A part of a file's words.
use Rattle.std.specs.Prelude.{take, drop}
use Rattle.std.proofs.Common.{◌≡◌, ℕ, ◌+◌, ◌-◌, ◌*◌, ◌/◌, ◌<◌, ◌≤◌, List, ◌++◌, length, sym, ◌∙◌, ap, arith, length-take, length-drop}
use Rattle.std.proofs.lemmas.List.{take-append-drop, take-take, drop-take, take-append-le, drop-append-le}
use Rattle.std.proofs.Math.Seq.{drop-append-add}
use Rattle.track_store.specs.Words.{record_at, tracks_joined}
use Rattle.file_tracks.specs.Places.{count_in}
use Rattle.file_tracks.proofs.Joined.{joined-append, joined-length}
use Rattle.file_tracks.proofs.Changes.{count_take, count_drop}

pub read_part : (contents : List (List ℕ)) (ts : List ℕ) (w place count from to r : ℕ) → ((t : ℕ) → 1 ≤ count_in t ts → length (record_at contents t) ≡ 432) → w ≤ 432 * length ts → place + count ≤ w
    → place ≡ 432 * from + r → r < 432 → to ≡ (place + count + 431) / 432
    → take count (drop r (tracks_joined contents (take (to - from) (drop from ts)))) ≡ take count (drop place (take w (tracks_joined contents ts)))
read_part contents ts w place count from to r whole enough inside at small last =
    let ja : List ℕ = tracks_joined contents (take from ts) in
    let m : List ℕ = tracks_joined contents (take (to - from) (drop from ts)) in
    let c : List ℕ = tracks_joined contents (drop (to - from) (drop from ts)) in
    let j : List ℕ = tracks_joined contents ts in
    let parts : j ≡ ja ++ (m ++ c) =
    ap (tracks_joined contents) (sym (take-append-drop from ts) ∙ ap (λ (us : List ℕ). take from ts ++ us) (sym (take-append-drop (to - from) (drop from ts))))
    ∙ joined-append contents (take from ts) (take (to - from) (drop from ts) ++ drop (to - from) (drop from ts))
    ∙ ap (λ (xs : List ℕ). ja ++ xs) (joined-append contents (take (to - from) (drop from ts)) (drop (to - from) (drop from ts))) in
    let la : length ja ≡ 432 * from =
    (let a = joined-length contents (take from ts) (λ t some. whole t (let p = count_take t from ts in omega (arith, p, some))) in let l = length-take from ts in omega (arith, a, l, at, inside, enough)) in
    let lm : length m ≡ 432 * (to - from) =
    (let a = joined-length contents (take (to - from) (drop from ts)) (λ t some. whole t (let p = count_take t (to - from) (drop from ts) in let q = count_drop t from ts in omega (arith, p, q, some))) in
    let l = length-take (to - from) (drop from ts) in let d = length-drop from ts in omega (arith, a, l, d, at, inside, enough, last)) in
    let places : place ≡ length ja + r = omega (arith, la, at) in
    let room : r ≤ length m = omega (arith, lm, at, small, last) in
    let fits : count ≤ length (drop r m) = (let d = length-drop r m in omega (arith, d, lm, at, small, last)) in
    let split : w ≡ place + (w - place) = omega (arith, inside) in
    let less : count ≤ w - place = omega (arith, inside) in
    sym (
    ap (λ (n : ℕ). take count (drop place (take n j))) split
    ∙ ap (take count) (drop-take place (w - place) j)
    ∙ take-take count (w - place) (drop place j) less
    ∙ ap (λ (xs : List ℕ). take count (drop place xs)) parts
    ∙ ap (λ (n : ℕ). take count (drop n (ja ++ (m ++ c)))) places
    ∙ ap (take count) (drop-append-add ja (m ++ c) r ∙ drop-append-le r m c room)
    ∙ take-append-le count (drop r m) c fits
    )
