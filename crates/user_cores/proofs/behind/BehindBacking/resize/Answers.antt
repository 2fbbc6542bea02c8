use Rattle.std.proofs.Common.{◌≤◌, arith}
use Rattle.user_cores.proofs.Resizing.{resized_shown, resized_whole}
use Rattle.user_cores.proofs.behind.BehindBacking.resize.Goals as goal

pub returns-clause-resizes : goal.returns-clause-resizes
returns-clause-resizes g c =
    let some : 1 ≤ c.args.user = omega (arith, c.number-number.ensures.range.0, c.number-number.ensures.value) in
    resized_shown c.args.user some _ _ c.args.blocks _ c.requires.usable.0 c.resize_user.ensures.resizes

pub returns-clause-usable : goal.returns-clause-usable
returns-clause-usable g c =
    let some : 1 ≤ c.args.user = omega (arith, c.number-number.ensures.range.0, c.number-number.ensures.value) in (
      resized_whole c.args.user some _ _ c.args.blocks c.requires.usable.0 c.resize_user.ensures.resizes,
      c.requires.usable.1,
    )
