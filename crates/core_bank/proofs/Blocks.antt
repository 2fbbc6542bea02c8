-- A core's words after one block was written.
use Rattle.std.specs.Prelude.{◌-◌, replicate}
use Rattle.std.proofs.Common.{◌≡◌, ◌≢◌, ◌⊎◌, inl, inr, ℕ, ◌+◌, ◌*◌, ◌<◌, ◌≤◌, ◌^◌, List, ◌++◌, length, take, drop, sym, ◌∙◌, ap, arith, append_assoc, length-append, length-drop}
use Rattle.std.proofs.lemmas.List.{length-take-le, take_at, drop_at, take-append-le, drop-append-le, take-take, drop-drop, drop-take}
use Rattle.std.proofs.lemmas.List.Elements.{All-append, All-take, All-drop, All-replicate}
use Rattle.core_bank.specs.Bank.{AreWords, block_at, blank, with_block}

before : (p q n : ℕ) (words ws : List ℕ) → q + n ≤ p → p ≤ length words → take n (drop q (take p words ++ ws)) ≡ take n (drop q words)
before p q n words ws le within =
    let len : length (take p words) ≡ p = length-take-le p words within in
    let one : drop q (take p words ++ ws) ≡ drop q (take p words) ++ ws = drop-append-le q (take p words) ws (omega arith) in
    let rest : length (drop q (take p words)) ≡ length (take p words) - q = length-drop q (take p words) in
    let two : take n (drop q (take p words) ++ ws) ≡ take n (drop q (take p words)) = take-append-le n (drop q (take p words)) ws (omega arith) in
    let e : p ≡ q + (p - q) = omega arith in
    let three : drop q (take (q + (p - q)) words) ≡ take (p - q) (drop q words) = drop-take q (p - q) words in
    let four : take n (take (p - q) (drop q words)) ≡ take n (drop q words) = take-take n (p - q) (drop q words) (omega arith) in
    ap (λ (l : List ℕ). take n l) one ∙ two ∙ ap (λ (m : ℕ). take n (drop q (take m words))) e ∙ ap (λ (l : List ℕ). take n l) three ∙ four

after : (p q n : ℕ) (words ws : List ℕ) → length ws ≡ n → p + n ≤ q → p ≤ length words → drop q (take p words ++ ws ++ drop (p + n) words) ≡ drop q words
after p q n words ws size le within =
    let len : length (take p words) ≡ p = length-take-le p words within in
    let both : length (take p words ++ ws) ≡ p + n = length-append (take p words) ws ∙ (λ i. len i + size i) in
    let e : q ≡ p + n + (q - (p + n)) = omega arith in
    let whole = take p words ++ ws ++ drop (p + n) words in
    let one : drop (q - (p + n)) (drop (p + n) whole) ≡ drop (p + n + (q - (p + n))) whole = drop-drop (q - (p + n)) (p + n) whole in
    let two : drop (p + n) whole ≡ drop (p + n) words = drop_at (take p words ++ ws) (drop (p + n) words) (p + n) both in
    let three : drop (q - (p + n)) (drop (p + n) words) ≡ drop (p + n + (q - (p + n))) words = drop-drop (q - (p + n)) (p + n) words in
    ap (λ (m : ℕ). drop m whole) e ∙ sym one ∙ ap (λ (l : List ℕ). drop (q - (p + n)) l) two ∙ three ∙ ap (λ (m : ℕ). drop m words) (sym e)

middle : (p n : ℕ) (words ws : List ℕ) → length ws ≡ n → p ≤ length words → take n (drop p (take p words ++ ws ++ drop (p + n) words)) ≡ ws
middle p n words ws size within =
    let len : length (take p words) ≡ p = length-take-le p words within in
    let one : take p words ++ ws ++ drop (p + n) words ≡ take p words ++ (ws ++ drop (p + n) words) = append_assoc (take p words) ws (drop (p + n) words) in
    ap (λ (l : List ℕ). take n (drop p l)) one
    ∙ ap (λ (l : List ℕ). take n l) (drop_at (take p words) (ws ++ drop (p + n) words) p len)
    ∙ take_at ws (drop (p + n) words) n size

size_is : (p : ℕ) → p + 256 - p ≡ 256
size_is p = omega arith

-- a block that was written has the words written
pub block_at-with_block_same : (words ws : List ℕ) (block : ℕ) → length words ≡ 32768 → block < 128 → length ws ≡ 256
    → block_at (with_block words block ws) block ≡ ws
block_at-with_block_same words ws block whole inside size =
    ap (λ (m : ℕ). take m (drop (256 * block) (with_block words block ws))) (size_is (256 * block)) ∙ middle (256 * block) 256 words ws size (omega arith)

-- the others have what they had
pub block_at-with_block_other : (words ws : List ℕ) (block other : ℕ) → length words ≡ 32768 → block < 128 → length ws ≡ 256 → other ≢ block
    → block_at (with_block words block ws) other ≡ block_at words other
block_at-with_block_other words ws block other whole inside size different =
    ap (λ (m : ℕ). take m (drop (256 * other) (with_block words block ws))) (size_is (256 * other))
    ∙ there
    ∙ ap (λ (m : ℕ). take m (drop (256 * other) words)) (sym (size_is (256 * other)))
  where
    within : 256 * block ≤ length words
    within = omega arith

    split : (other + 1 ≤ block) ⊎ (block + 1 ≤ other)
    split = grind arith

    there : take 256 (drop (256 * other) (with_block words block ws)) ≡ take 256 (drop (256 * other) words)
    there = elim split [
      | inl below ↦ ap (λ (l : List ℕ). take 256 (drop (256 * other) l)) (append_assoc (take (256 * block) words) ws (drop (256 * block + 256) words))
          ∙ before (256 * block) (256 * other) 256 words (ws ++ drop (256 * block + 256) words) (omega arith) within
      | inr above ↦ ap (λ (l : List ℕ). take 256 l) (after (256 * block) (256 * other) 256 words ws size (omega arith) within)
    ]

-- words written among words leave words
pub AreWords-with_block : (words ws : List ℕ) (block : ℕ) → AreWords words → AreWords ws → AreWords (with_block words block ws)
AreWords-with_block words ws block old new =
    let P : ℕ → Type 0 = λ w. w < 2 ^ 36 in
    All-append P (take (256 * block) words ++ ws) (drop (256 * block + 256) words)
    (All-append P (take (256 * block) words) ws (All-take P (256 * block) words old) new)
    (All-drop P (256 * block + 256) words old)

-- plus zeros are words
pub AreWords-blank : AreWords blank
unfolding blank
AreWords-blank = let P : ℕ → Type 0 = λ w. w < 2 ^ 36 in let zero : 0 < 2 ^ 36 = omega arith in All-replicate P 256 0 zero

-- so are those of a whole core
pub zeros_are_words : AreWords (replicate 32768 0)
zeros_are_words = let P : ℕ → Type 0 = λ w. w < 2 ^ 36 in let zero : 0 < 2 ^ 36 = omega arith in All-replicate P 32768 0 zero
