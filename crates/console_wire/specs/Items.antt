-- claim: the lines and quits that bytes from a console stand for, in whatever pieces they come.
use Rattle.std.specs.Prelude.{ℕ, ◌-◌, not, ◌&&◌, nat_eq, nat_le, if◌then◌else◌, List, [], ◌∷◌, ◌++◌, take, map, filter}
use Rattle.bcd48.specs.Characters.{is_character}
use Rattle.ctss_types.specs.Line.{trimmed}
use Rattle.ctss_types.specs.declared.script.Event.{Event}
use Rattle.ctss_types.specs.declared.script.Event.TheVariants.{Line, Quit}

-- the character that a byte stands for: a small letter for the large one, and a byte outside the 48 for a blank
abbrev pub character_of : ℕ → ℕ
character_of b = if nat_le 97 b && nat_le b 122 then b - 32 else (if is_character b then b else 32)

-- the half line of a piece: its characters without carriage returns, the first 84 of them
abbrev pub half_of : List ℕ → List ℕ
half_of piece = take 84 (map character_of (filter (λ b. not (nat_eq b 13)) piece))

-- the line of a piece that is ended
abbrev pub line_of : List ℕ → List ℕ
line_of piece = trimmed (half_of piece)

-- A piece goes on up to a line feed, which makes a line of it, or a byte 3, which is a quit and drops it. What a byte behind a
-- piece gives, and the piece behind it.
abbrev pub items_at : List ℕ → ℕ → List Event
items_at piece b = if nat_eq b 10 then Line (line_of piece) ∷ [] else (if nat_eq b 3 then Quit ∷ [] else [])

abbrev pub piece_after : List ℕ → ℕ → List ℕ
piece_after piece b = if nat_eq b 10 then [] else (if nat_eq b 3 then [] else piece ++ b ∷ [])

-- what bytes behind a piece give, and the piece that is left over
unfoldable pub items_from : List ℕ → List ℕ → List Event
items_from piece [] = []
items_from piece (b ∷ bytes) = items_at piece b ++ items_from (piece_after piece b) bytes

unfoldable pub piece_from : List ℕ → List ℕ → List ℕ
piece_from piece [] = piece
piece_from piece (b ∷ bytes) = piece_from (piece_after piece b) bytes

-- what all bytes from a console say
unfoldable pub console_items : List ℕ → List Event
console_items bytes = items_from [] bytes
