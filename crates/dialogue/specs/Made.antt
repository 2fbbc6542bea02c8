-- proof: why no lines are added, and a line part by part.
use Rattle.std.specs.Prelude.{◌≡◌, Bool, true, false, List, ◌++◌, Option, Some, None, Err}
use Rattle.std.specs.declared.result.Result.{Result}
use Rattle.program_model.specs.declared.ComRefusal.{ComRefusal}
use Rattle.program_model.specs.CommandLines.{Line}
use Rattle.dialogue.specs.declared.runcom.made.ComFault.{ComFault}
use Rattle.dialogue.specs.declared.runcom.made.ComFault.TheVariants.{Refused, NoMemory}

-- a refusal is that of the definition; want of memory says nothing
abbrev pub IsFault : ComFault → Result (List Line) ComRefusal → Type 0
IsFault (Refused r) told = told ≡ Err r
IsFault NoMemory told = Unit {0}

-- a line with its arguments, added behind what stood there, or one of its arguments isn't there
abbrev pub IsPart : Bool → (before after : Line) → Option Line → Type 0
IsPart true before after told = (l : Line) × (after ≡ before ++ l) × (told ≡ Some l)
IsPart false before after told = told ≡ None
