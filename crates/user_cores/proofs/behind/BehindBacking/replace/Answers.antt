use Rattle.std.proofs.Common.{◌≤◌, arith}
use Rattle.user_cores.proofs.Resizing.{replaced_shown, replaced_whole}
use Rattle.user_cores.proofs.behind.BehindBacking.replace.Goals as goal

pub returns-clause-replaces : goal.returns-clause-replaces
returns-clause-replaces g c =
    let some : 1 ≤ c.args.user = omega (arith, c.number-number.ensures.range.0, c.number-number.ensures.value) in
    replaced_shown c.args.user some _ _ c.args.blocks _ c.replace_user.ensures.replaces

pub returns-clause-usable : goal.returns-clause-usable
returns-clause-usable g c =
    let some : 1 ≤ c.args.user = omega (arith, c.number-number.ensures.range.0, c.number-number.ensures.value) in (
      replaced_whole c.args.user some _ _ c.args.blocks c.requires.usable.0 c.replace_user.ensures.replaces,
      c.requires.usable.1,
    )
