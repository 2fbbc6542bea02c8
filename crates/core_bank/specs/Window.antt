-- proof: the blocks of core that a program's addresses reach.
use Rattle.std.specs.Prelude.{ℕ, ◌+◌, ◌*◌, ◌%◌, ◌<◌, ◌≤◌}

-- so many blocks of core, from a first one on
pub record Window : Type 0 where
  pub base : ℕ
  pub blocks : ℕ

-- an address below the end of so many blocks
abbrev pub IsLegal : ℕ → ℕ → Type 0
IsLegal address blocks = address < 256 * blocks

-- the word of core that an address is moved to, round the end of core
abbrev pub relocated_address : Window → ℕ → ℕ
relocated_address window address = (address + 256 * window.base) % 32768

-- the window has this block of core
abbrev pub HasBlock : Window → ℕ → Type 0
HasBlock window block = (window.base ≤ block) × (block < window.base + window.blocks)
