-- proof: the words of core while a copy comes in.
use Rattle.std.specs.Prelude.{◌≡◌, ◌≢◌, ℕ, List, length}
use Rattle.core_bank.specs.Bank.{AreWords, block_at}

-- words of 36 bits, as many as core has
pub record AreOfCore (bank : List ℕ) : Type 0 where
  pub core : length bank ≡ 32768
  pub words : AreWords bank

-- one block holds other words of 36 bits, and the other blocks what they held
pub record FillsBlock (place : ℕ) (old new : List ℕ) : Type 0 where
  pub words : AreWords new
  pub len : length new ≡ length old
  pub others : (q : ℕ) → q ≢ place → block_at new q ≡ block_at old q
