-- claim: the level of a program as the greatest one that fits.
use Rattle.std.specs.Prelude.{◌≡◌, ℕ, ◌+◌, ◌/◌, ◌^◌, ◌≤◌, ◌↔◌}
use Rattle.plan_model.specs.Levels.{level_of_words}

-- The level of a program of so many words, with so many words a level: it is at most 8, two to it is no more than one
-- and the quotient of the two, and no greater level of at most 8 has that.
pub record IsLevel (wq words level : ℕ) : Type 0 where
  pub within : level ≤ 8
  pub fits : 2 ^ level ≤ words / wq + 1
  pub most : (other : ℕ) → other ≤ 8 → 2 ^ other ≤ words / wq + 1 → other ≤ level

-- a level is that of a program just where it fits and none greater does
abbrev pub LevelFits : Type 0
LevelFits = (wq words level : ℕ) → (level_of_words wq words ≡ level) ↔ IsLevel wq words level
