-- One code more in a word, as the program adds it.
use Rattle.std.proofs.Common.{◌≡◌, ℕ, ◌+◌, ◌*◌, ◌/◌, ◌%◌, ◌^◌, ◌<◌, List, [], ◌∷◌, ◌++◌, length, take, get_or, All, bit_or, refl, ap, ◌∙◌, arith, length-append, add-one}
use Rattle.std.proofs.Math.Nat.{pow-suc, pow-le-pow_right}
use Rattle.std.proofs.lemmas.Nat.{or_shifted}
use Rattle.std.proofs.lemmas.List.{take_more}
use Rattle.bcd48.specs.Words.{packed, codes_in}

-- one code more on the right
packed-push : (cs : List ℕ) (c : ℕ) → packed (cs ++ c ∷ []) ≡ packed cs * 64 + c
packed-push [] c = omega arith
packed-push (x ∷ cs) c =
    let place : 64 ^ length (cs ++ c ∷ []) ≡ 64 ^ length cs * 64 = rw (length-append, add-one) (pow-suc 64 (length cs)) in
    rw (place, packed-push cs c) (omega arith)

-- what the program does with the i + 1st code
pub shifted : (i w c : ℕ) → i < 6 → w < 64 ^ i → c < 64 → bit_or (w * 2 ^ 6 % 2 ^ 64) c ≡ w * 64 + c
shifted i w c few below small =
    let most = pow-le-pow_right {n = 64} (omega arith) {i = i} {j = 5} (omega arith) in
    let fits : w * 2 ^ 6 % 2 ^ 64 ≡ w * 2 ^ 6 = omega arith in
    rw (fits, or_shifted w 6 c small) refl

pub packed_more : (cs : List ℕ) (i : ℕ) → i < length cs → packed (take (i + 1) cs) ≡ packed (take i cs) * 64 + get_or cs i 0
packed_more cs i h = ap packed (take_more cs i 0 h) ∙ packed-push (take i cs) (get_or cs i 0)

six_places : (a b c d e f : ℕ) → a < 64 → b < 64 → c < 64 → d < 64 → e < 64 → f < 64
    → codes_in (packed (a ∷ b ∷ c ∷ d ∷ e ∷ f ∷ [])) ≡ a ∷ b ∷ c ∷ d ∷ e ∷ f ∷ []
six_places a b c d e f p q r s t u =
    let word : ℕ = packed (a ∷ b ∷ c ∷ d ∷ e ∷ f ∷ []) in
    let first : word / 64 ^ 5 % 64 ≡ a = omega arith in
    let second : word / 64 ^ 4 % 64 ≡ b = omega arith in
    let third : word / 64 ^ 3 % 64 ≡ c = omega arith in
    let fourth : word / 64 ^ 2 % 64 ≡ d = omega arith in
    let fifth : word / 64 % 64 ≡ e = omega arith in
    let sixth : word % 64 ≡ f = omega arith in
    λ i. first i ∷ second i ∷ third i ∷ fourth i ∷ fifth i ∷ sixth i ∷ []

-- a word of six codes has those codes
pub codes_in-packed : (cs : List ℕ) → length cs ≡ 6 → All (λ c. c < 64) cs → codes_in (packed cs) ≡ cs
codes_in-packed (a ∷ b ∷ c ∷ d ∷ e ∷ f ∷ []) six small =
    let at : (k : ℕ) → k < 6 → get_or (a ∷ b ∷ c ∷ d ∷ e ∷ f ∷ []) k 0 < 64 = λ k h. small k 0 h in
    six_places a b c d e f (at 0 (omega arith)) (at 1 (omega arith)) (at 2 (omega arith)) (at 3 (omega arith)) (at 4 (omega arith)) (at 5 (omega arith))
codes_in-packed _ six small = absurd (omega arith)
