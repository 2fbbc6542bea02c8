use Rattle.std.proofs.Common.{◌≡◌, ◌+◌, ◌-◌, ◌≤◌}
use Rattle.picture_model.specs.Cores.{owner_in}
use Rattle.picture_model.specs.CorePanel.{stretch_from}
use Rattle.schedule_figures.specs.Maps.{users_of}
use Rattle.schedule_figures.proofs.chart.owners.stretch_from.Given as goal

-- all places so far are this user's
abbrev pub invariant-loop-next : goal.invariant-loop-next
invariant-loop-next l = record {
  from : l.place ≤ l.next;
  until : l.next ≤ 128;
  same : (l.next - l.place) + stretch_from (owner_in (users_of l.core)) l.user l.next (128 - l.next)
      ≡ stretch_from (owner_in (users_of l.core)) l.user l.place (128 - l.place);
}
