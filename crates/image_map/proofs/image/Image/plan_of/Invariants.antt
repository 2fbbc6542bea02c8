use Rattle.std.specs.Prelude.{slice_index_or, false}
use Rattle.std.proofs.Common.{◌≡◌, ℕ, ◌<◌, length}
use Rattle.image_map.specs.Places.{is_kept}
use Rattle.image_map.proofs.image.Image.plan_of.Given as goal

abbrev pub invariant-keeping : goal.invariant-keeping
invariant-keeping g l = record {
  kept : (b : ℕ) → b < l.b → slice_index_or l.kept b false ≡ is_kept l.self.tables.kept.slots.slots.items l.self.tables.kept.slots.quotas.items l.user b;
  len : length l.kept ≡ 128;
}
