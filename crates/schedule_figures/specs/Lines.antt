-- proof: parts of a user's line.
use Rattle.std.specs.Prelude.{ℕ, List, ◌++◌, sum, map}
use Rattle.ctss_types.specs.declared.history.Entry.{Entry}
use Rattle.picture_model.specs.Requests.{visits}
use Rattle.picture_model.specs.Figures.{line_of, service_of, served_of, load_of, dumped_of, read_of, total, highest_level, wait_of, responses, turnarounds}
use Rattle.text_model.specs.Parts.{column}
use Rattle.picture_model.specs.Columns.{mean_columns}
use Rattle.schedule_figures.specs.declared.work.Work.{Work}

-- the highest level, loads and blocks
abbrev pub load_columns : Work → List ℕ
load_columns w = column 6 w.level ++ (column 6 w.loads ++ (column 8 w.dumped ++ column 8 w.read))

-- all that stands behind a user's name
abbrev pub figure_columns : ℕ → List Entry → List ℕ
figure_columns u es =
    column 7 (total (line_of u) es) ++ (column 9 (total (service_of u) es) ++ (column 10 (total (served_of u) es)
    ++ (column 10 (sum (map wait_of (visits u es)))
    ++ (mean_columns (responses (visits u es)) ++ (mean_columns (turnarounds (visits u es))
    ++ (column 6 (highest_level u es) ++ (column 6 (total (load_of u) es)
    ++ (column 8 (total (dumped_of u) es) ++ column 8 (total (read_of u) es)))))))))
