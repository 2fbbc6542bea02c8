use Rattle.std.proofs.Common.{◌≡◌, ◌+◌, ◌*◌, ◌^◌, ◌≤◌, drop}
use Rattle.picture_model.specs.CorePanel.{next_load}
use Rattle.schedule_drawing.proofs.core_rows.next_load.Given as goal

-- no load has come yet
abbrev pub invariant-loop-entry : goal.invariant-loop-entry
invariant-loop-entry l = record {
  same : next_load l.last l.cut (drop l.entry-index l.entries) ≡ next_load l.last l.fn.cut l.entries;
  below : l.cut ≤ l.fn.cut + 2 ^ 64 * l.entry-index;
}
