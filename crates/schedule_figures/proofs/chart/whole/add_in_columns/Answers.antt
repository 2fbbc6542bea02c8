use Rattle.std.proofs.Common.{◌≡◌, ℕ, List, ap, ◌∙◌}
use Rattle.std.specs.List.{flat_map}
use Rattle.ctss_types.specs.declared.script.Account.{Account}
use Rattle.ctss_types.specs.declared.history.Entry.{Entry}
use Rattle.picture_model.specs.Chart.{ruler, all_user_rows, level_line}
use Rattle.picture_model.specs.FigureLines.{all_levels}
use Rattle.text_writer.proofs.Added.{◌⨾◌, adds_is}
use Rattle.schedule_figures.proofs.chart.whole.add_in_columns.Goals as goal

-- the rows of the same accounts over the same entries
same_users : (swap each columns : ℕ) (a b : List Account) (es fs : List Entry) → a ≡ b → es ≡ fs
    → all_user_rows swap each columns 1 a es ≡ all_user_rows swap each columns 1 b fs
same_users swap each columns a b es fs p q =
    ap (λ (l : List Account). all_user_rows swap each columns 1 l es) p ∙ ap (λ (l : List Entry). all_user_rows swap each columns 1 b l) q

-- the lines of all levels over the same entries
same_levels : (each columns : ℕ) (es fs : List Entry) → es ≡ fs → flat_map (level_line each columns es) all_levels ≡ flat_map (level_line each columns fs) all_levels
same_levels each columns es fs p = ap (λ (l : List Entry). flat_map (level_line each columns l) all_levels) p

pub returns : goal.returns
returns g c =
    (c.add_time_line.ensures ⨾ c.end_line.ensures)
    ⨾ c.add_head.ensures
    ⨾ adds_is (ap (λ (l : List Entry). ruler c.args.columns.each c.args.columns.count l) c.as_slice-entries.ensures) c.add_ruler.ensures
    ⨾ adds_is (same_users c.args.script.now.params.swap c.args.columns.each c.args.columns.count _ _ _ _ c.as_slice.ensures c.as_slice-entries.ensures)
    c.add_users.ensures
    ⨾ adds_is (same_levels c.args.columns.each c.args.columns.count _ _ c.as_slice-entries.ensures) c.add_levels.ensures
