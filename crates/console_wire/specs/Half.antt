-- proof: how a half line is kept, and the item of a byte that was fed.
use Rattle.std.specs.Prelude.{ℕ, nat_lt, if◌then◌else◌, List, [], ◌∷◌, ◌++◌, length}
use Rattle.ctss_types.specs.declared.script.Event.{Event}
use Rattle.ctss_types.specs.declared.script.Event.TheVariants.{Line, Quit}
use Rattle.console_wire.specs.declared.Fed.{Fed}
use Rattle.console_wire.specs.declared.Fed.TheVariants as fed

-- one more character, where there is room for it
abbrev pub with_character : List ℕ → ℕ → List ℕ
with_character half c = if nat_lt (length half) 84 then half ++ c ∷ [] else half

-- the item that a byte gave, if any
abbrev pub items_given : Fed → List Event
items_given fed.More = []
items_given (fed.Line line) = Line line ∷ []
items_given fed.Quit = Quit ∷ []
