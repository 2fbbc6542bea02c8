use Rattle.std.proofs.Common.{◌≡◌, ◌≤◌, ◌*◌, ◌++◌, drop, length}
use Rattle.std.specs.List.{flat_map}
use Rattle.text_model.specs.Parts.{number}
use Rattle.text_writer.proofs.digits.put_numbers.Given as goal

abbrev pub invariant-numbers : goal.invariant-numbers
invariant-numbers l = record {
  some : l.left ≤ length l.numbers;
  room : 21 * l.left ≤ l.at;
  within : l.at ≤ length l.bytes;
  written : drop l.at l.bytes ≡ flat_map number (drop l.left l.numbers) ++ drop l.end l.fn.bytes;
}

abbrev pub decreases-numbers : goal.decreases-numbers
decreases-numbers l = l.left
