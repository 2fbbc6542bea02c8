-- claim: what each line of the debugger does.
use Rattle.std.specs.Prelude.{ℕ, Bool, true, false, Option, nat_lt, List, [], ◌∷◌, length, codes, if◌then◌else◌, Some, None}
use Rattle.time_sharing.specs.Machine.{Line, Stopped, Resized}
use Rattle.time_sharing.specs.Rows.{Outcome}
use Rattle.program_model.specs.declared.DebugLine.{DebugLine}
use Rattle.program_model.specs.declared.DebugLine.TheVariants.{Break, Clear, Go, Look, Regs, Set, End, Bad}
use Rattle.program_model.specs.DebugLines.{debug_of}
use Rattle.program_model.specs.Stops.{Stops, is_full, with_break, without_break}
use Rattle.program_model.specs.declared.ProgramState.TheVariants.{Working}
use Rattle.program_model.specs.Lines.{with_words}
use Rattle.program_model.specs.Saved.{register_lines, word_line}
use Rattle.user_model.specs.Inner.{Inner}
use Rattle.user_model.specs.Programs.{gives}
use Rattle.user_model.specs.Texts.{ready_text}

-- a line of the debugger writes its text and no R n
abbrev pub tells : List Line → Inner → Outcome Inner
tells lines i = gives i lines Stopped

abbrev pub bad_line : Inner → Outcome Inner
bad_line i = tells (codes "BAD ARGUMENTS" ∷ []) i

-- other breakpoints
abbrev pub with_breaks : Stops → List ℕ → Inner → Inner
with_breaks s breaks i = record i { debugger = Some (record s { breaks = breaks }) }

-- what is done at a place of the program
abbrev pub if_inside : ℕ → Inner → Inner → Outcome Inner
if_inside a done i = if nat_lt a (length i.core) then tells [] done else tells (codes "PROTECTION" ∷ []) i

-- the program goes on, and hasn't stepped yet
abbrev pub let_go : Stops → Inner → Outcome Inner
let_go s i = gives (record i { state = Working; debugger = Some (record s { stepped = false }) }) [] Resized

-- the debugger is closed
abbrev pub debugger_ends : Inner → ℕ → Outcome Inner
debugger_ends i n = tells (ready_text n ∷ []) (record i { debugger = None })

-- the row of a line of the debugger, which counts as a command
abbrev pub debug_row : Stops → DebugLine → Inner → ℕ → Outcome Inner
debug_row s (Break a) i n = if is_full s.breaks a then bad_line i else if_inside a (with_breaks s (with_break s.breaks a) i) i
debug_row s (Clear a) i n = if_inside a (with_breaks s (without_break s.breaks a) i) i
debug_row s Go i n = let_go s i
debug_row s (Look a) i n = tells (word_line i.core a ∷ []) i
debug_row s Regs i n = tells (register_lines i.regs) i
debug_row s (Set a w) i n = if_inside a (record i { core = with_words i.core a (w ∷ []) }) i
debug_row s End i n = debugger_ends i n
debug_row s Bad i n = bad_line i

-- whether a line is SET, which alone of the debugger's lines may change a word
abbrev pub stores : DebugLine → Bool
stores (Break a) = false
stores (Clear a) = false
stores Go = false
stores (Look a) = false
stores Regs = false
stores (Set a w) = true
stores End = false
stores Bad = false

abbrev pub line_stores : Option Line → Bool
line_stores None = false
line_stores (Some l) = stores (debug_of l)

-- the debugger is open
abbrev pub is_debugged : Option Stops → Bool
is_debugged None = false
is_debugged (Some s) = true
