-- The words of a core after a part of them was written that is one block.
use Rattle.std.specs.Prelude.{◌-◌}
use Rattle.std.proofs.Common.{◌≡◌, ◌≢◌, ℕ, ◌+◌, ◌*◌, ◌^◌, ◌<◌, List, ◌++◌, length, take, drop, sym, ◌∙◌, ap, arith, append_assoc, length-append, length-drop}
use Rattle.std.proofs.lemmas.List.{drop-drop, length-take-le}
use Rattle.std.proofs.lemmas.List.Elements.{All-append, All-take, All-drop}
use borrow.Rule.Slice.PartMut.{put_mid}
use Rattle.core_bank.specs.Bank.{AreWords, block_at, with_block}
use Rattle.core_bank.proofs.Blocks.{block_at-with_block_same, block_at-with_block_other}

-- the list that a write through a part leaves
put_is : (bank ws : List ℕ) (b : ℕ) → put_mid (256 * b) (256 * b + 256 - 256 * b) bank ws ≡ with_block bank b ws
put_is bank ws b =
    let size : 256 * b + 256 - 256 * b ≡ 256 = omega arith in
    ap (λ (k : ℕ). put_mid (256 * b) k bank ws) size
    ∙ ap (λ (l : List ℕ). take (256 * b) bank ++ (ws ++ l)) (drop-drop 256 (256 * b) bank)
    ∙ sym (append_assoc (take (256 * b) bank) ws (drop (256 * b + 256) bank))

-- that block
pub put_here : (bank ws : List ℕ) (b : ℕ) → length bank ≡ 32768 → b < 128 → length ws ≡ 256
    → block_at (put_mid (256 * b) (256 * b + 256 - 256 * b) bank ws) b ≡ ws
put_here bank ws b whole inside size = ap (λ (l : List ℕ). block_at l b) (put_is bank ws b) ∙ block_at-with_block_same bank ws b whole inside size

-- the others
pub put_there : (bank ws : List ℕ) (b c : ℕ) → length bank ≡ 32768 → b < 128 → length ws ≡ 256 → c ≢ b
    → block_at (put_mid (256 * b) (256 * b + 256 - 256 * b) bank ws) c ≡ block_at bank c
put_there bank ws b c whole inside size other = ap (λ (l : List ℕ). block_at l c) (put_is bank ws b) ∙ block_at-with_block_other bank ws b c whole inside size other

-- what was written are words
pub put_words : (bank ws : List ℕ) (b : ℕ) → AreWords bank → AreWords ws → AreWords (put_mid (256 * b) (256 * b + 256 - 256 * b) bank ws)
put_words bank ws b was came =
    let P : ℕ → Type 0 = λ w. w < 2 ^ 36 in
    let rest : List ℕ = drop (256 * b + 256 - 256 * b) (drop (256 * b) bank) in
    All-append P (take (256 * b) bank) (ws ++ rest) (All-take P (256 * b) bank was)
    (All-append P ws rest came (All-drop P (256 * b + 256 - 256 * b) (drop (256 * b) bank) (All-drop P (256 * b) bank was)))

-- and core has as many
pub put_length : (bank ws : List ℕ) (b : ℕ) → length bank ≡ 32768 → b < 128 → length ws ≡ 256
    → length (put_mid (256 * b) (256 * b + 256 - 256 * b) bank ws) ≡ length bank
put_length bank ws b whole inside size =
    let both = length-append (take (256 * b) bank ++ ws) (drop (256 * b + 256) bank) in
    let front = length-append (take (256 * b) bank) ws in
    let first : length (take (256 * b) bank) ≡ 256 * b = length-take-le (256 * b) bank (omega arith) in
    let rest : length (drop (256 * b + 256) bank) ≡ length bank - (256 * b + 256) = length-drop (256 * b + 256) bank in
    let same : length (with_block bank b ws) ≡ length bank = omega (arith, both, front, first, rest) in
    ap (λ (l : List ℕ). length l) (put_is bank ws b) ∙ same
