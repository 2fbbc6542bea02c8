use Rattle.std.proofs.Common.{◌≡◌, ◌≤◌, ◌+◌, ◌++◌, map, vec_len, vec_capacity, take}
use Rattle.time_sharing.specs.Machine.{Out}
use Rattle.dialogue.proofs.notes.note_all.Given as goal

abbrev pub invariant-lines : goal.invariant-lines
invariant-lines l = record {
  noted : l.items.items ≡ l.fn.items.items ++ map Out (take l.line-index l.lines);
  len : vec_len l.items ≡ vec_len l.fn.items + l.line-index;
  room : vec_capacity l.fn.items ≤ vec_capacity l.items;
}
