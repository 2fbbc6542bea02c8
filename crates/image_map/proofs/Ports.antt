-- A core of which only the words of some blocks may have changed.
use Rattle.std.proofs.Common.{◌≡◌, ℕ, ◌+◌, ◌*◌, ◌<◌, ◌≤◌, List, ◌++◌, length, take, drop, sym, ◌∙◌, ap, arith, take-append-drop, append_assoc, length-drop}
use Rattle.std.specs.Prelude.{slice_set, ◌-◌}
use Rattle.std.proofs.Math.Seq.{take-set-lt}
use Rattle.std.proofs.lemmas.List.{drop-drop, drop-set-add, drop-set-lt, take-set-le, length-take-le}
use Rattle.image_map.specs.Windows.{window}

-- the parts of a bank
pub parts : (b n : ℕ) (bank : List ℕ) → bank ≡ take (256 * b) bank ++ window bank b n ++ drop (256 * (b + n)) bank
parts b n bank =
    let e : 256 * (b + n) ≡ 256 * b + 256 * n = omega arith in
    let front : List ℕ = take (256 * b) bank in
    let rest : List ℕ = drop (256 * b) bank in
    sym (take-append-drop (256 * b) bank)
    ∙ ap (λ (l : List ℕ). front ++ l) (sym (take-append-drop (256 * n) rest))
    ∙ ap (λ (l : List ℕ). front ++ (take (256 * n) rest ++ l)) (drop-drop (256 * n) (256 * b) bank ∙ ap (λ (m : ℕ). drop m bank) (sym e))
    ∙ sym (append_assoc front (window bank b n) (drop (256 * (b + n)) bank))

pub whole_of : (b n : ℕ) (new old : List ℕ) → take (256 * b) new ≡ take (256 * b) old → drop (256 * (b + n)) new ≡ drop (256 * (b + n)) old
    → new ≡ take (256 * b) old ++ window new b n ++ drop (256 * (b + n)) old
whole_of b n new old front rest = parts b n new ∙ (λ j. front j ++ window new b n ++ rest j)

-- one word of a window is put

pub window_set : (b n a w : ℕ) (bank : List ℕ) → a < 256 * n → window (slice_set bank (a + 256 * b) w) b n ≡ slice_set (window bank b n) a w
window_set b n a w bank inside =
    let e : a + 256 * b ≡ 256 * b + a = omega arith in
    (λ j. window (slice_set bank (e j) w) b n)
    ∙ ap (λ (l : List ℕ). take (256 * n) l) (drop-set-add (256 * b) bank a w)
    ∙ take-set-lt (256 * n) (drop (256 * b) bank) a w inside

pub front_set : (b a w : ℕ) (bank : List ℕ) → take (256 * b) (slice_set bank (a + 256 * b) w) ≡ take (256 * b) bank
front_set b a w bank = take-set-le (256 * b) bank (a + 256 * b) w (omega arith)

pub rest_set : (b n a w : ℕ) (bank : List ℕ) → a < 256 * n → drop (256 * (b + n)) (slice_set bank (a + 256 * b) w) ≡ drop (256 * (b + n)) bank
rest_set b n a w bank inside = drop-set-lt (256 * (b + n)) bank (a + 256 * b) w (omega arith)

pub window_length : (b n : ℕ) (bank : List ℕ) → length bank ≡ 32768 → b + n ≤ 128 → length (window bank b n) ≡ 256 * n
window_length b n bank whole fits =
    let rest : length (drop (256 * b) bank) ≡ length bank - 256 * b = length-drop (256 * b) bank in
    length-take-le (256 * n) (drop (256 * b) bank) (omega arith)

-- what stands in a window
pub ruleset windows = (window_set, front_set, rest_set, window_length)
