-- claim: core in the picture in characters: a line for each load, with what it moved and whose each place is after it.
use Rattle.std.specs.Prelude.{ℕ, zero, suc, ◌+◌, ◌-◌, not, nat_eq, ◌&&◌, if◌then◌else◌, List, [], ◌∷◌, ◌++◌, codes}
use Rattle.std.specs.Fmt.{decimal}
use Rattle.ctss_types.specs.declared.script.Script.{Script}
use Rattle.ctss_types.specs.declared.history.Record.{Record}
use Rattle.ctss_types.specs.declared.history.Entry.{Entry}
use Rattle.ctss_types.specs.declared.history.Entry.TheVariants.{Swap}
use Rattle.text_model.specs.Parts.{line, column}
use Rattle.picture_model.specs.Chart.{chart_of}
use Rattle.picture_model.specs.Cores.{owners_of}
use Rattle.picture_model.specs.CorePanel.{begins_at, stretch_from, first_owners, owners_after}

-- so many places from one on, and the user whose they are
abbrev pub stretch_text : (user place count : ℕ) → List ℕ
stretch_text user place count =
    codes "  " ++ (decimal place ++ (codes "-" ++ (decimal (place + (count - 1)) ++ (codes " " ++ decimal user))))

-- the stretch that begins at a place of core, if one does that is somebody's
abbrev pub place_text : (ℕ → ℕ) → (place : ℕ) → List ℕ
place_text owner place =
    if begins_at owner place && not (nat_eq (owner place) 0)
    then stretch_text (owner place) place (stretch_from owner (owner place) place (128 - place)) else []

-- all of so many places, from one on
abbrev pub places_text : (ℕ → ℕ) → (place count : ℕ) → List ℕ
places_text owner place zero = []
places_text owner place (suc n) = place_text owner place ++ places_text owner (suc place) n

-- the line of a load: its tick, whose it is, how many blocks were dumped, read and cleared, and core after it
abbrev pub load_line : (tick u dumped read fresh : ℕ) → (ℕ → ℕ) → List ℕ
load_line tick u dumped read fresh owner =
    line (column 10 tick ++ (column 6 u ++ (column 8 dumped ++ (column 8 read ++ (column 8 fresh ++ places_text owner 0 128)))))

abbrev pub core_line : (ℕ → ℕ) → Entry → List ℕ
core_line owner (Swap tick u dumped read fresh) = load_line tick u dumped read fresh owner
core_line owner _ = []

-- the lines of all loads, with the owners behind each
abbrev pub core_lines : List (ℕ → ℕ) → List Entry → List ℕ
core_lines owners [] = []
core_lines owners (e ∷ es) = core_line (first_owners owners) e ++ core_lines (owners_after e owners) es

-- over the lines
abbrev pub core_head : List ℕ
core_head = line (codes "      TICK  USER  DUMPED    READ CLEARED  PLACES OF CORE BEHIND THE LOAD, AND WHOSE THEY ARE")

-- the whole picture in characters, with the owners of core after each load
unfoldable pub chart_over : List (ℕ → ℕ) → Script → Record → List ℕ
chart_over owners script rec = chart_of script rec ++ (core_head ++ core_lines owners rec.entries)

-- these owners are those of the script's run
abbrev pub chart_with_core : Script → Record → List ℕ
chart_with_core script rec = chart_over (owners_of script) script rec
