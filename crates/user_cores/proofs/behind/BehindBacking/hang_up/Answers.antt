use Rattle.std.proofs.Common.{◌≤◌, arith}
use Rattle.user_cores.proofs.Resizing.{hung_shown, replaced_whole}
use Rattle.user_cores.proofs.behind.BehindBacking.hang_up.Goals as goal

pub returns-clause-hangs : goal.returns-clause-hangs
returns-clause-hangs g c =
    let some : 1 ≤ c.args.user = omega (arith, c.number-number.ensures.range.0, c.number-number.ensures.value) in
    hung_shown c.args.user some _ _ _ _ c.replace_user.ensures.replaces c.drop_temporary.ensures.drops

pub returns-clause-usable : goal.returns-clause-usable
returns-clause-usable g c =
    let some : 1 ≤ c.args.user = omega (arith, c.number-number.ensures.range.0, c.number-number.ensures.value) in (
      replaced_whole c.args.user some _ _ 0 c.requires.usable.0 c.replace_user.ensures.replaces,
      c.drop_temporary.ensures.sound,
    )
