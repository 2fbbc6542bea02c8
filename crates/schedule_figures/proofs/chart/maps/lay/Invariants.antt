use Rattle.std.proofs.Common.{◌≡◌, ◌-◌, ◌+◌, ◌≤◌, ◌++◌, List, take}
use Rattle.std.specs.Prelude.{vec_len, vec_capacity}
use Rattle.schedule_figures.specs.Maps.{users_of}
use Rattle.schedule_figures.specs.declared.chart.maps.CorePart.{CorePart}
use Rattle.schedule_figures.proofs.chart.maps.lay.Given as goal

-- the places so far were laid down, and there is room for those that are left
abbrev pub invariant-parts : goal.invariant-parts
invariant-parts l = record {
  more : List CorePart;
  parts : l.parts.items ≡ l.fn.parts.items ++ more;
  users : users_of more ≡ take l.place l.owners;
  within : l.place ≤ 128;
  room : vec_len l.parts + (128 - l.place) ≤ vec_capacity l.parts;
}

abbrev pub decreases-parts : goal.decreases-parts
decreases-parts l = 128 - l.place
