-- Bits of two words are bits of a word.
use Rattle.std.proofs.Common.{ℕ, ◌<◌, ◌^◌, bit_or, bit_xor}
use Rattle.std.proofs.lemmas.Nat.{or_lt, xor_lt}

pub or_below : (a b : ℕ) → a < 2 ^ 36 → b < 2 ^ 36 → bit_or a b < 2 ^ 36
or_below a b h k = or_lt 36 a b h k

pub xor_below : (a b : ℕ) → a < 2 ^ 36 → b < 2 ^ 36 → bit_xor a b < 2 ^ 36
xor_below a b h k = xor_lt 36 a b h k
