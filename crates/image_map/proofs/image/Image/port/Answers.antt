use Rattle.std.proofs.Common.{arith}
use Rattle.image_map.specs.Images.{size_of}
use Rattle.image_map.proofs.Residents.{loaded_yes}
use Rattle.image_map.proofs.image.Image.port.Goals as goal

pub over-requires-clause-most : goal.over-requires-clause-most
over-requires-clause-most g c =
    let s = c.args.self.now.tables in
    let fits = c.base-base.ensures.inside (loaded_yes s.owners s.kept.slots (size_of s.sizes.items c.args.user) c.args.user c.requires.resident) in
    omega (arith, fits, c.size-blocks.ensures.value)
