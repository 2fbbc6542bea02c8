-- proof: some blocks of a bank, from a place on.
use Rattle.std.specs.Prelude.{List}
use Rattle.std.proofs.Common.{◌≡◌, ℕ, ◌+◌, ◌*◌, ◌++◌, length, take, drop, length-take, length-drop}

-- the words of n blocks of a bank from a place on
abbrev pub window : List ℕ → ℕ → ℕ → List ℕ
window bank base n = take (256 * n) (drop (256 * base) bank)

-- how many words these are
pub same_length : (b c n m : ℕ) (xs ys : List ℕ) → length xs ≡ 32768 → length ys ≡ 32768 → b ≡ c → n ≡ m → length (window xs b n) ≡ length (window ys c m)
same_length b c n m xs ys h k e f = simp (length-take, length-drop, h, k, e, f)

-- The words before and after these blocks stay: a bank is its old words with those of the blocks now.
pub record KeepsAround (base n : ℕ) (old new : List ℕ) : Type 0 where
  pub front : take (256 * base) new ≡ take (256 * base) old
  pub rest : drop (256 * (base + n)) new ≡ drop (256 * (base + n)) old
  pub whole : new ≡ take (256 * base) old ++ window new base n ++ drop (256 * (base + n)) old
