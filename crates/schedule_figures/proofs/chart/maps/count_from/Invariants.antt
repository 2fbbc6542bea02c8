use Rattle.std.proofs.Common.{◌≡◌, ◌-◌, ◌<◌, ◌≤◌, ◌++◌, take, replicate}
use Rattle.picture_model.specs.Cores.{owner_in}
use Rattle.schedule_figures.proofs.chart.maps.count_from.Given as goal

-- all places so far are this user's
abbrev pub invariant-loop-next : goal.invariant-loop-next
invariant-loop-next l = record {
  from : l.place < l.next;
  until : l.next ≤ 128;
  same : take l.next l.owners ≡ take l.place l.owners ++ replicate (l.next - l.place) (owner_in l.owners l.place);
}
