use Rattle.std.proofs.Common.{◌≡◌, ◌++◌, ◌+◌, ℕ, List, drop}
use Rattle.picture_model.specs.Drawing.{user_rows}
use Rattle.text_writer.specs.Writing.{Adds}
use Rattle.schedule_drawing.proofs.wait.add_users.Given as goal

-- the rows so far were added, and with those that are left they are all
abbrev pub invariant-loop-index : goal.invariant-loop-index
invariant-loop-index g l =
    (done : List ℕ) × Adds g.K.Sink done l.fn.out l.out
    × (done ++ user_rows l.sheet.scale l.sheet.zoom (l.index + 1) (drop l.index l.accounts) l.entries ≡ user_rows l.sheet.scale l.sheet.zoom 1 l.accounts l.entries)
