use Rattle.std.proofs.Common.{◌∙◌, take, sym}
use Rattle.fap_assemble.proofs.Judging.{seen_first, seen_later}
use Rattle.fap_assemble.proofs.module_judge.is_seen.Goals as goal

pub returns-then-is_some : goal.returns-then-is_some
returns-then-is_some c =
    c.if-is_some.true
    ∙ seen_first (take c.args.spot.visible c.args.r.now.whole.symbols) c.args.past.now.externs c.args.name c.value.result c.value.ensures (sym c.is_some.ensures ∙ c.if-is_some.true)

pub returns-else-is_some : goal.returns-else-is_some
returns-else-is_some c =
    c.has.ensures
    ∙ seen_later (take c.args.spot.visible c.args.r.now.whole.symbols) c.args.past.now.externs c.args.name c.value.result c.value.ensures (sym c.is_some.ensures ∙ c.if-is_some.false)
