-- claim: what the program answers that lists a program's cards, or traces its program.
use Rattle.std.specs.Prelude.{ℕ, nat_eq, if◌then◌else◌, List, [], ◌∷◌, ◌++◌, Option, Some, None, Ok, Err, bytes_eq, codes}
use Rattle.std.specs.Str.Lines.{lines}
use Rattle.std.specs.Fmt.{decimal}
use Rattle.std.specs.declared.result.Result.{Result}
use Rattle.text_model.specs.Fields.{number_in, is_within}
use Rattle.text_model.specs.Parts.{line}
use Rattle.fap_model.specs.Listed.{listed}
use Rattle.ctss_modes.specs.declared.outcome.Outcome.{Outcome}
use Rattle.script_show.specs.Asked.{IsRefusedWords}
use Rattle.script_show.specs.Input.{TextOfBytes, StatusOfBytes, IsOfInput}
use Rattle.script_show.specs.Shown.{StreamsSeen}
use Rattle.link_model.specs.ModuleCards.{is_relocatable}
use Rattle.fap_listing.specs.Listing.{deck_listing_of}
use Rattle.fap_listing.specs.Cards.{made_of, made_faults, listing_of}
use Rattle.program_trace.specs.declared.program.Program.{Program}
use Rattle.program_trace.specs.declared.program.ProgramFault.{ProgramFault}
use Rattle.program_trace.specs.declared.program.ProgramFault.TheVariants.{Cards, Line}
use Rattle.program_trace.specs.Programs.{program_of}
use Rattle.program_trace.specs.Traces.{traced}
use Rattle.program_trace.specs.Texts.{trace_text}
pub use Rattle.run_listing.specs.declared.asked.Asked.{Asked}
pub use Rattle.run_listing.specs.declared.asked.Asked.TheVariants.{List as Lists, Trace as Traces}

-- one word, `list`, or `trace` and how many steps at most
abbrev pub trace_asked : Option ℕ → Option Asked
trace_asked None = None
trace_asked (Some n) = if is_within 1 100000 n then Some (Traces n) else None

abbrev pub asked : List (List ℕ) → Option Asked
asked [] = None
asked (w ∷ []) = if bytes_eq w (codes "list") then Some Lists else None
asked (w ∷ n ∷ []) = if bytes_eq w (codes "trace") then trace_asked (number_in n) else None
asked (w ∷ n ∷ x ∷ ws) = None

-- that a card behind END can't be read by the program
abbrev pub no_line_text : (card : ℕ) → List ℕ
no_line_text n =
    line (codes "CARD " ++ (decimal n ++ codes ": A LINE FOR THE PROGRAM HAS AT MOST 84 CHARACTERS, NONE BUT THE 48, AND THERE ARE AT MOST 2047"))

-- the trace of at most so many steps of the program of cards, or why there is none
abbrev pub trace_by : (most : ℕ) → Result Program ProgramFault → List (List ℕ) → List ℕ
trace_by most (Ok p) cards = trace_text (listed cards).rows (listed cards).symbols (traced most p.deck p.lines)
trace_by most (Err Cards) cards = deck_listing_of cards
trace_by most (Err (Line n)) cards = no_line_text n

abbrev pub trace_status : Result Program ProgramFault → ℕ
trace_status (Ok p) = 0
trace_status (Err fault) = 9

-- a module alone is no program
abbrev pub module_text : List ℕ
module_text = line (codes "THE CARDS ARE A MODULE'S, WHICH IS LINKED BEFORE IT RUNS")

abbrev pub trace_of : (most : ℕ) → List (List ℕ) → List ℕ
trace_of most cards = if is_relocatable cards then module_text else trace_by most (program_of cards) cards

abbrev pub trace_status_of : List (List ℕ) → ℕ
trace_status_of cards = if is_relocatable cards then 9 else trace_status (program_of cards)

-- the text of a text whose lines are cards, and its status: 0 where no card is at fault, and else 9
abbrev pub text_of : Asked → TextOfBytes
text_of Lists bytes = listing_of (lines bytes)
text_of (Traces most) bytes = trace_of most (lines bytes)

abbrev pub listing_status : ℕ → ℕ
listing_status faults = if nat_eq faults 0 then 0 else 9

abbrev pub status_of : Asked → StatusOfBytes
status_of Lists bytes = listing_status (made_faults (made_of (lines bytes)))
status_of (Traces most) bytes = trace_status_of (lines bytes)

-- the answer to words that ask for one of these, or for neither
abbrev pub IsAnswer : Option Asked → StreamsSeen → StreamsSeen → Outcome → Type 0
IsAnswer (Some a) old new result = IsOfInput (text_of a) (status_of a) old new result
IsAnswer None old new result = IsRefusedWords old new result
