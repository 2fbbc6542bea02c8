-- proof: how a step ended, as text.
use Rattle.std.specs.Prelude.{◌≡◌, ℕ, ◌<◌, ◌^◌, List, ◌++◌, codes}
use Rattle.word36.specs.Octal.{octal_digits, octal_text}
use Rattle.cpu_step.specs.declared.Stepped.{Stepped}
use Rattle.cpu_step.specs.declared.Stepped.TheVariants.{Went, Halt, Entry, Illegal, Outside}

-- an entry's word and an outside address stand behind a colon
abbrev pub IsEndText : Stepped → List ℕ → Type 0
IsEndText Went text = text ≡ codes "Went"
IsEndText Halt text = text ≡ codes "Halt"
IsEndText Illegal text = text ≡ codes "Illegal"
IsEndText (Entry w) text = text ≡ codes "Entry:" ++ octal_text w
IsEndText (Outside a) text = a < 2 ^ 15 → text ≡ codes "Outside:" ++ octal_digits 5 a
