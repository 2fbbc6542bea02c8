use Rattle.std.proofs.Common.{◌≡◌, ◌++◌, ◌+◌, ℕ, List, drop}
use Rattle.picture_model.specs.Chart.{all_user_rows}
use Rattle.text_writer.specs.Writing.{Adds}
use Rattle.schedule_figures.proofs.chart.users.add_users.Given as goal

-- the users so far were added, and with those that are left they are all
abbrev pub invariant-loop-index : goal.invariant-loop-index
invariant-loop-index g l =
    (done : List ℕ) × Adds g.K.Sink done l.fn.out l.out
    × (done ++ all_user_rows l.swap l.columns.each l.columns.count (l.index + 1) (drop l.index l.accounts) l.entries
    ≡ all_user_rows l.swap l.columns.each l.columns.count 1 l.accounts l.entries)
