-- claim: the text of a trace: a line a step, the lines that were read and written, and how it ended, with card and symbol.
use Rattle.std.specs.Prelude.{ℕ, suc, ◌+◌, ◌-◌, Bool, ◌&&◌, nat_lt, nat_le, List, [], ◌∷◌, ◌++◌, length, position, slice_get, Option, Some, None, codes}
use Rattle.std.specs.Option.{option_map}
use Rattle.std.specs.List.{flat_map}
use Rattle.std.specs.Fmt.{decimal}
use Rattle.word36.specs.Octal.{octal_digits}
use Rattle.ctss_types.specs.Words.{text_of_name}
use Rattle.ctss_types.specs.declared.history.Item.{Item}
use Rattle.ctss_types.specs.declared.history.Item.TheVariants.{In, Out, Quit, Hang}
use Rattle.text_model.specs.Parts.{line, column}
use Rattle.fap_model.specs.declared.types.SymbolValue.{SymbolValue}
use Rattle.fap_model.specs.declared.types.CardRow.{CardRow}
use Rattle.fap_listing.specs.Words.{blanks}
use Rattle.program_trace.specs.Traces.{Trace, TracedStep, TraceEnd, Stopped, Waits, Unfinished}
use Rattle.program_trace.specs.Instructions.{symbol_with, word_column}
use Rattle.program_trace.specs.Registers.{changes_to}

-- a line that was read or written; a program quits and hangs nowhere
abbrev pub item_line : Item → List ℕ
item_line (In l) = line (blanks 32 ++ (codes "READ   " ++ l))
item_line (Out l) = line (blanks 32 ++ (codes "WROTE  " ++ l))
item_line Quit = []
item_line Hang = []

-- the step of this number
abbrev pub step_line : List SymbolValue → (n : ℕ) → TracedStep → List ℕ
step_line symbols n s =
    line (column 6 n ++ (blanks 2 ++ (octal_digits 5 s.place ++ (blanks 2 ++ (word_column symbols s.word ++ changes_to s.before s.after)))))

abbrev pub step_text : List SymbolValue → (n : ℕ) → TracedStep → List ℕ
step_text symbols n s = step_line symbols n s ++ flat_map item_line s.items

-- of each step
abbrev pub steps_text : List SymbolValue → (n : ℕ) → List TracedStep → List ℕ
steps_text symbols n [] = []
steps_text symbols n (s ∷ ss) = step_text symbols n s ++ steps_text symbols (n + 1) ss

-- the number of the first card that has a word at a place
abbrev pub covers : (place : ℕ) → CardRow → Bool
covers place row = nat_le row.place place && nat_lt place (row.place + length row.words)

abbrev pub card_at : (place : ℕ) → List CardRow → Option ℕ
card_at place rows = option_map suc (position (covers place) rows)

abbrev pub card_text : Option ℕ → List ℕ
card_text None = []
card_text (Some n) = codes ", CARD " ++ decimal n

abbrev pub symbol_text : Option SymbolValue → List ℕ
symbol_text None = []
symbol_text (Some s) = codes ", " ++ text_of_name s.name

-- a place with its card and its symbol
abbrev pub place_text : List CardRow → List SymbolValue → (place : ℕ) → List ℕ
place_text rows symbols place =
    octal_digits 5 place ++ (card_text (card_at place rows) ++ symbol_text (symbol_with place symbols))

-- where a program stopped: at the last instruction that it did, or where it begins
abbrev pub place_of : Option TracedStep → (place : ℕ) → ℕ
place_of None place = place
place_of (Some s) place = s.place

abbrev pub last_place : (place : ℕ) → List TracedStep → ℕ
last_place place steps = place_of (slice_get steps (length steps - 1)) place

abbrev pub end_text : TraceEnd → List ℕ
end_text Stopped = codes "STOPPED AT "
end_text Waits = codes "WAITS FOR A LINE AT "
end_text Unfinished = codes "GOES ON AT "

abbrev pub end_place : TraceEnd → Trace → ℕ
end_place Stopped t = last_place t.place t.steps
end_place Waits t = t.place
end_place Unfinished t = t.place

abbrev pub end_line : List CardRow → List SymbolValue → Trace → List ℕ
end_line rows symbols t =
    line (decimal (length t.steps) ++ (codes " STEPS, " ++ (end_text t.end ++ place_text rows symbols (end_place t.end t))))

-- the trace of a program whose cards come to these rows and symbols
unfoldable pub trace_text : List CardRow → List SymbolValue → Trace → List ℕ
trace_text rows symbols t =
    line (codes "  STEP  PLACE  WORD             OPERATION             READ, WRITTEN AND CHANGED")
    ++ (steps_text symbols 1 t.steps ++ (line [] ++ end_line rows symbols t))
