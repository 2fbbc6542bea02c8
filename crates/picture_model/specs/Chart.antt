-- claim: the picture of a record in characters: who ran, and at which level, in lines of 120 columns.
use Rattle.std.specs.Prelude.{ℕ, zero, suc, ◌+◌, ◌-◌, ◌*◌, ◌/◌, max, List, [], ◌∷◌, ◌++◌, length, replicate, codes}
use Rattle.std.specs.List.{flat_map}
use Rattle.std.specs.Fmt.{decimal}
use Rattle.bcd48.specs.Words.{characters_of}
use Rattle.ctss_types.specs.declared.script.Script.{Script}
use Rattle.ctss_types.specs.declared.script.Account.{Account}
use Rattle.ctss_types.specs.declared.history.Record.{Record}
use Rattle.ctss_types.specs.declared.history.Entry.{Entry}
use Rattle.text_model.specs.Parts.{line, column}
use Rattle.picture_model.specs.declared.request.Track.TheVariants.{Fresh}
use Rattle.picture_model.specs.FigureLines.{all_levels, time_line}
use Rattle.picture_model.specs.Folds.{places_in, tick_at}
use Rattle.picture_model.specs.Marks.{served_row, event_row, level_row, cells}

-- places a column: 26, or as many as the record asks for in 110 columns
abbrev pub places_each : ℕ → ℕ
places_each places = max 26 ((places + 109) / 110)

-- columns that have a place: 110 at most
abbrev pub column_count : ℕ → ℕ
column_count places = (places + (places_each places - 1)) / places_each places

-- a number left in 10 places; a longer one stands whole
abbrev pub left_number : ℕ → List ℕ
left_number n = decimal n ++ replicate (10 - length (decimal n)) 32

-- the ticks over each tenth column, so many of them from one on
abbrev pub ruler_from : (each tenth count : ℕ) → List Entry → List ℕ
ruler_from each tenth zero es = []
ruler_from each tenth (suc n) es = left_number (tick_at (10 * tenth * each) es) ++ ruler_from each (suc tenth) n es

abbrev pub ruler : (each columns : ℕ) → List Entry → List ℕ
ruler each columns es = line (codes "TICK      " ++ ruler_from each 0 ((columns + 9) / 10) es)

-- a user: what came to it, and below who ran
abbrev pub user_rows : (swap each columns u : ℕ) → Account → List Entry → List ℕ
user_rows swap each columns u a es =
    line (codes "          " ++ cells each 0 columns (event_row u 0 es))
    ++ line (column 2 u ++ (32 ∷ (characters_of a.name ++ (32 ∷ cells each 0 columns (served_row swap u 0 Fresh es)))))

abbrev pub all_user_rows : (swap each columns u : ℕ) → List Account → List Entry → List ℕ
all_user_rows swap each columns u [] es = []
all_user_rows swap each columns u (a ∷ accounts) es =
    user_rows swap each columns u a es ++ all_user_rows swap each columns (suc u) accounts es

-- a level, and who was served at it
abbrev pub level_line : (each columns : ℕ) → List Entry → ℕ → List ℕ
level_line each columns es level = line (codes "LEVEL " ++ (decimal level ++ (codes "   " ++ cells each 0 columns (level_row level 0 es))))

-- how it is read
abbrev pub chart_head : ℕ → List ℕ
chart_head each =
    line (decimal each ++ codes " TICKS A COLUMN; OF IDLE TIME AT MOST 52 TICKS ARE SHOWN. . IN A QUEUE, / BROUGHT INTO CORE, 0 TO 8 SERVED AT")
    ++ line (codes "THAT LEVEL. ABOVE: V A LINE, Q A QUIT, H A HANG-UP, S A LINE TOO MANY, R A RISE. BELOW: WHO WAS SERVED (A IS USER 10).")

abbrev pub chart_with : (each columns : ℕ) → Script → Record → List ℕ
chart_with each columns script rec =
    line (time_line script.params.swap rec)
    ++ (chart_head each
    ++ (ruler each columns rec.entries
    ++ (all_user_rows script.params.swap each columns 1 script.accounts rec.entries
    ++ flat_map (level_line each columns rec.entries) all_levels)))

unfoldable pub chart_of : Script → Record → List ℕ
chart_of script rec = chart_with (places_each (places_in rec)) (column_count (places_in rec)) script rec
