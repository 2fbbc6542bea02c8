use Rattle.image_map.specs.Images.{IsResident}
use Rattle.image_map.proofs.image.Image.resident.Given as goal

abbrev pub invariant-looking : goal.invariant-looking
invariant-looking g l = IsResident l.self.tables.owners l.b l.user
