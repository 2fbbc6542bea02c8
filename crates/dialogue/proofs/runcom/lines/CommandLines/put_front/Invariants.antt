use Rattle.std.proofs.Common.{◌≡◌, ◌≤◌, ◌++◌, length, drop}
use Rattle.dialogue.proofs.runcom.lines.CommandLines.put_front.Given as goal

abbrev pub invariant-lines : goal.invariant-lines
invariant-lines l = record {
  items : l.self-inside.lines.items ≡ drop l.left l.lines ++ l.initial.self-inside.lines.items;
  capacity : l.self-inside.lines.capacity ≡ l.initial.self-inside.lines.capacity;
  left : l.left ≤ length l.lines;
}

abbrev pub decreases-lines : goal.decreases-lines
decreases-lines l = l.left
