use Rattle.std.proofs.Common.{◌≡◌, ◌++◌, ◌*◌, ◌^◌, ◌≤◌, ℕ, List, drop}
use Rattle.picture_model.specs.declared.request.Track.TheVariants.{Fresh}
use Rattle.picture_model.specs.Drawing.{waits_drawn}
use Rattle.text_writer.specs.Writing.{Adds}
use Rattle.schedule_drawing.proofs.wait.add_waits.Given as goal

-- the times so far were added, and with those that are left they are all
abbrev pub invariant-loop-entry : goal.invariant-loop-entry
invariant-loop-entry g l =
    (done : List ℕ) × Adds g.K.Sink done l.fn.out l.out
    × (done ++ waits_drawn l.sheet.scale l.sheet.zoom l.user l.cut l.track (drop l.entry-index l.entries)
    ≡ waits_drawn l.sheet.scale l.sheet.zoom l.user 0 Fresh l.entries)
    × (l.cut ≤ l.entry-index * 2 ^ 64)
