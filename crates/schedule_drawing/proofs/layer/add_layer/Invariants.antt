use Rattle.std.proofs.Common.{◌≡◌, ◌++◌, ◌*◌, ◌^◌, ◌≤◌, ℕ, List, drop}
use Rattle.picture_model.specs.Drawing.{drawn}
use Rattle.text_writer.specs.Writing.{Adds}
use Rattle.schedule_drawing.proofs.layer.add_layer.Given as goal

-- the entries so far were added, and with those that are left they are all
abbrev pub invariant-loop-entry : goal.invariant-loop-entry
invariant-loop-entry g l =
    (done : List ℕ) × Adds g.K.Sink done l.fn.out l.out
    × (done ++ drawn (g.L.Layer.text l.layer) l.cut (drop l.entry-index l.entries) ≡ drawn (g.L.Layer.text l.layer) 0 l.entries)
    × (l.cut ≤ l.entry-index * 2 ^ 64)
