use Rattle.std.proofs.Common.{◌≤◌, arith}
use Rattle.image_map.specs.Images.{size_of}
use Rattle.image_map.proofs.Residents.{loaded_fits}
use Rattle.image_map.proofs.image.Image.base.Goals as goal

pub returns-clause-inside : goal.returns-clause-inside
returns-clause-inside g c = λ is.
    let s = c.args.self.now.tables in
    let some : 1 ≤ c.args.user = omega (arith, c.number-number.ensures.range.0, c.number-number.ensures.value) in
    let fits = loaded_fits s.owners s.kept.slots (size_of s.sizes.items c.args.user) c.args.user some is (s.sound.inside c.args.user) s.sound.places in
    omega (arith, fits, c.place.ensures)
