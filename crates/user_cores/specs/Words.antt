-- proof: the words of a user's blocks.
use Rattle.std.specs.Prelude.{◌≡◌, ℕ, List, [], length, Option, Some, None}
use Rattle.std.specs.List.{All, flat_map}

-- the words of these blocks, where they are told
abbrev pub words_of : Option (List (List ℕ)) → List ℕ
words_of None = []
words_of (Some blocks) = flat_map (λ b. b) blocks

-- each block has its 256 words
abbrev pub AreWhole : Option (List (List ℕ)) → Type 0
AreWhole None = Unit {0}
AreWhole (Some blocks) = All (λ b. length b ≡ 256) blocks
