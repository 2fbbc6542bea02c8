use Rattle.std.proofs.Common.{◌≡◌, drop}
use Rattle.picture_model.specs.Cores.{owner_in}
use Rattle.schedule_figures.specs.Maps.{users_of}
use Rattle.schedule_figures.proofs.chart.owners.owner_at.Given as goal

-- the place is not in the parts so far
abbrev pub invariant-loop-part : goal.invariant-loop-part
invariant-loop-part l = owner_in (users_of (drop l.part-index l.core)) l.left ≡ owner_in (users_of l.core) l.place
