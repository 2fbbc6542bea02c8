use Rattle.std.proofs.Common.{◌≡◌, ◌++◌, ◌+◌, ◌*◌, ◌^◌, ◌≤◌, ℕ, List, drop, length, map}
use Rattle.picture_model.specs.Cores.{owner_in}
use Rattle.picture_model.specs.CorePanel.{cores_drawn}
use Rattle.text_writer.specs.Writing.{Adds}
use Rattle.schedule_drawing.proofs.core_rows.add_loads.Given as goal

-- the loads so far were added, and with those that are left they are all
abbrev pub invariant-loads : goal.invariant-loads
invariant-loads g l =
    (done : List ℕ) × Adds g.K.Sink done l.fn.out l.out
    × (done ++ cores_drawn l.sheet.scale l.sheet.zoom l.sheet.users l.last l.cut (map owner_in (drop l.next l.maps)) l.entries
    ≡ cores_drawn l.sheet.scale l.sheet.zoom l.sheet.users l.last 0 (map owner_in l.maps) l.fn.entries)
    × (l.cut + 2 ^ 64 * length l.entries ≤ 2 ^ 64 * length l.fn.entries)

abbrev pub decreases-loads : goal.decreases-loads
decreases-loads g l = length l.entries
