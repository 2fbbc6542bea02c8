use Rattle.std.proofs.Common.{◌≡◌, ◌++◌, map, take, drop, vec_len}
use Rattle.time_sharing.specs.System.{out_of}
use Rattle.schedule_notes.proofs.notes.leave_consoles.Given as goal

abbrev pub invariant-loop-i : goal.invariant-loop-i
invariant-loop-i l = record {
  items : l.consoles.items ≡ map (out_of l.user) (take l.i l.fn.consoles.items) ++ drop l.i l.fn.consoles.items;
  len : vec_len l.consoles ≡ vec_len l.fn.consoles;
}
