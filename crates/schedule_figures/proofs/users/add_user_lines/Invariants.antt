use Rattle.std.proofs.Common.{◌≡◌, ◌++◌, ◌+◌, ℕ, List, drop}
use Rattle.picture_model.specs.FigureLines.{user_lines}
use Rattle.text_writer.specs.Writing.{Adds}
use Rattle.schedule_figures.proofs.users.add_user_lines.Given as goal

-- the lines so far were added, and with those that are left they are all
abbrev pub invariant-loop-index : goal.invariant-loop-index
invariant-loop-index g l =
    (done : List ℕ) × Adds g.K.Sink done l.fn.out l.out
    × (done ++ user_lines l.front l.behind (l.index + 1) (drop l.index l.accounts) l.entries ≡ user_lines l.front l.behind 1 l.accounts l.entries)
