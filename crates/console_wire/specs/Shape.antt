-- proof: the bytes of a half line.
use Rattle.std.specs.Prelude.{◌≡◌, ◌≤◌, ℕ, true, List, length, take}
use Rattle.std.specs.List.{list_all}
use Rattle.bcd48.specs.Characters.{is_character}

-- the first len of these 84 bytes are characters
pub record IsHalf (bytes : List ℕ) (len : ℕ) : Type 0 where
  pub size : length bytes ≡ 84
  pub most : len ≤ 84
  pub characters : list_all is_character (take len bytes) ≡ true
