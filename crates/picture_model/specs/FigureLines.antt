-- claim: the figures of a schedule as lines.
use Rattle.std.specs.Prelude.{ℕ, suc, List, [], ◌∷◌, ◌++◌, sum, map, codes}
use Rattle.std.specs.List.{flat_map}
use Rattle.std.specs.Fmt.{decimal}
use Rattle.bcd48.specs.Words.{characters_of}
use Rattle.ctss_types.specs.Entries.{cause_text}
use Rattle.ctss_types.specs.declared.script.Script.{Script}
use Rattle.ctss_types.specs.declared.script.Account.{Account}
use Rattle.ctss_types.specs.declared.history.Cause.{Cause}
use Rattle.ctss_types.specs.declared.history.Cause.TheVariants as cause
use Rattle.ctss_types.specs.declared.history.Record.{Record}
use Rattle.ctss_types.specs.declared.history.Entry.{Entry}
use Rattle.record_laws.specs.Spans.{served_in, swapping_in, idle_in}
use Rattle.picture_model.specs.Requests.{visits}
use Rattle.picture_model.specs.Figures.{line_of, service_of, served_of, load_of, dumped_of, read_of, total, highest_level, wait_of, responses, turnarounds, service_at, ticks_at}
use Rattle.text_model.specs.Parts.{in_places, column}
use Rattle.picture_model.specs.Columns.{mean_columns}

abbrev pub user_head : List ℕ
user_head =
    codes "USER NAME    LINES SERVICES    SERVED    WAITED  RESPONSE    MOST TURNROUND    MOST LEVEL LOADS  DUMPED    READ"

-- a user's line: lines, services and ticks served and waited; response and turnaround, mean and greatest; highest level, loads, blocks
abbrev pub user_line : ℕ → Account → List Entry → List ℕ
user_line u a es =
    column 4 u ++ (32 ∷ (characters_of a.name
    ++ (column 7 (total (line_of u) es) ++ (column 9 (total (service_of u) es) ++ (column 10 (total (served_of u) es)
    ++ (column 10 (sum (map wait_of (visits u es)))
    ++ (mean_columns (responses (visits u es)) ++ (mean_columns (turnarounds (visits u es))
    ++ (column 6 (highest_level u es) ++ (column 6 (total (load_of u) es)
    ++ (column 8 (total (dumped_of u) es) ++ column 8 (total (read_of u) es))))))))))))

abbrev pub all_causes : List Cause
all_causes = cause.Time ∷ cause.Wait ∷ cause.Stop ∷ cause.Size ∷ cause.Preempt ∷ cause.End ∷ []

-- the levels of the queues
abbrev pub all_levels : List ℕ
all_levels = 0 ∷ 1 ∷ 2 ∷ 3 ∷ 4 ∷ 5 ∷ 6 ∷ 7 ∷ 8 ∷ []

abbrev pub level_head : List ℕ
level_head = codes "LEVEL          " ++ flat_map (λ (c : Cause). in_places 10 (cause_text c)) all_causes

-- a level's services by cause, and their ticks by cause

abbrev pub level_services : List Entry → ℕ → List ℕ
level_services es level =
    column 5 level ++ (codes "  SERVICES" ++ flat_map (λ (c : Cause). column 10 (total (service_at level c) es)) all_causes)

abbrev pub level_ticks : List Entry → ℕ → List ℕ
level_ticks es level =
    column 5 level ++ (codes "  TICKS   " ++ flat_map (λ (c : Cause). column 10 (total (ticks_at level c) es)) all_causes)

-- the whole time, and what it went into
abbrev pub time_line : ℕ → Record → List ℕ
time_line swap rec =
    codes "END " ++ (decimal rec.clock ++ (codes " = " ++ (decimal (served_in rec.entries) ++ (codes " SERVED + "
    ++ (decimal (swapping_in swap rec.entries) ++ (codes " SWAPPING + " ++ (decimal (idle_in rec.entries) ++ codes " IDLE")))))))

-- a line between two texts: in front of it and behind it
abbrev pub between : (front behind text : List ℕ) → List ℕ
between front behind text = front ++ (text ++ behind)

-- the users' lines, numbered from u on, each between two texts
abbrev pub user_lines : (front behind : List ℕ) (u : ℕ) → List Account → List Entry → List ℕ
user_lines front behind u [] es = []
user_lines front behind u (a ∷ accounts) es =
    between front behind (user_line u a es) ++ user_lines front behind (suc u) accounts es

-- all lines, each between two texts: the users', the levels', and the whole time
abbrev pub figures_in : (front behind : List ℕ) → Script → Record → List ℕ
figures_in front behind script rec =
    between front behind user_head ++ (user_lines front behind 1 script.accounts rec.entries
    ++ (between front behind level_head
    ++ (flat_map (λ (level : ℕ). between front behind (level_services rec.entries level)) all_levels
    ++ (flat_map (λ (level : ℕ). between front behind (level_ticks rec.entries level)) all_levels
    ++ between front behind (time_line script.params.swap rec)))))

unfoldable pub figures_of : Script → Record → List ℕ
figures_of script rec = figures_in [] (10 ∷ []) script rec
