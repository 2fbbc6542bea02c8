-- claim: each line of a console is one that a script's card may have, and it doesn't matter in which pieces bytes come.
use Rattle.std.specs.Prelude.{◌≡◌, ◌≤◌, ℕ, true, List, ◌++◌, length}
use Rattle.std.specs.List.{All, list_all}
use Rattle.bcd48.specs.Characters.{is_character}
use Rattle.ctss_types.specs.Line.{trimmed}
use Rattle.ctss_types.specs.declared.script.Event.{Event}
use Rattle.ctss_types.specs.declared.script.Event.TheVariants as event
use Rattle.console_wire.specs.Items.{items_from, piece_from}

-- a quit, or a line of at most 84 of the 48 characters with no blanks behind them
abbrev pub IsTypedItem : Event → Type 0
IsTypedItem event.Dial = ⊥
IsTypedItem (event.Line line) = (length line ≤ 84) × (list_all is_character line ≡ true) × (trimmed line ≡ line)
IsTypedItem event.Quit = Unit {0}
IsTypedItem event.Hang = ⊥

abbrev pub ItemsAreTyped : Type 0
ItemsAreTyped = (piece bytes : List ℕ) → All IsTypedItem (items_from piece bytes)

-- bytes that come in two parts give what the first gives, and then what the second gives behind the piece left over
abbrev pub ItemsOfParts : Type 0
ItemsOfParts = (piece front back : List ℕ) → items_from piece (front ++ back) ≡ items_from piece front ++ items_from (piece_from piece front) back

abbrev pub PieceOfParts : Type 0
PieceOfParts = (piece front back : List ℕ) → piece_from piece (front ++ back) ≡ piece_from (piece_from piece front) back
