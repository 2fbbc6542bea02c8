use Rattle.std.proofs.Common.{◌≡◌, ◌≤◌, length, take}
use Rattle.ctss_types.specs.Params.{least_numbers, written_out}
use Rattle.script_read.proofs.params.written_out.Given as goal

-- the numbers so far are written as all are
abbrev pub invariant-zeros : goal.invariant-zeros
invariant-zeros l = record { within : l.count ≤ length l.numbers; same : written_out least_numbers (take l.count l.numbers) ≡ written_out least_numbers l.numbers }

abbrev pub decreases-zeros : goal.decreases-zeros
decreases-zeros l = l.count
