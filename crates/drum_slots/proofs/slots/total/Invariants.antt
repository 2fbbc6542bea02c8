use Rattle.std.specs.Prelude.{sum}
use Rattle.std.proofs.Common.{◌≡◌, take}
use Rattle.drum_slots.proofs.slots.total.Given as goal

abbrev pub invariant-loop-quota : goal.invariant-loop-quota
invariant-loop-quota l = l.total ≡ sum (take l.quota-index l.quotas)
