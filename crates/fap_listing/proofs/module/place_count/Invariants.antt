use Rattle.std.proofs.Common.{◌≡◌, ◌+◌, ◌*◌, ◌^◌, ◌≤◌, drop}
use Rattle.fap_listing.specs.ModuleListing.{place_count}
use Rattle.fap_listing.proofs.module.place_count.Given as goal

abbrev pub invariant-loop-row : goal.invariant-loop-row
invariant-loop-row l = record {
  rest : l.places + place_count (drop l.row-index l.rows) ≡ place_count l.rows;
  within : l.places ≤ 2 ^ 65 * l.row-index;
}
