-- claim: what a core heard in turns one after another.
use Rattle.std.specs.Prelude.{ℕ, suc, ◌+◌, ◌*◌, List, [], ◌∷◌, ◌++◌, map, None}
use Rattle.std.specs.List.{flat_map}
use Rattle.ctss_types.specs.declared.script.Timed.{Timed}
use Rattle.live_core.specs.Core.{CoreCall, Took, Went}

-- what a core heard in turns from this number on, with these events in each
abbrev pub heard_in : ℕ → List (List Timed) → List CoreCall
heard_in number [] = []
heard_in number (es ∷ rest) = map Took es ++ Went (1000 * (number + 1)) None ∷ heard_in (suc number) rest

-- all events of these turns
abbrev pub events_in : List (List Timed) → List Timed
events_in given = flat_map (λ (es : List Timed). es) given
