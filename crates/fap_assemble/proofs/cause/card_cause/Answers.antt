use Rattle.std.proofs.Common.{◌∙◌}
use Rattle.fap_assemble.proofs.Causes.{card_said}
use Rattle.fap_assemble.proofs.cause.card_cause.Goals as goal

pub returns : goal.returns
returns c =
    c.cause.ensures
    ∙ card_said c.args.op c.args.symbols.now c.args.visible c.args.place c.names_seen-names.result c.args.text.now c.in_ok-said.said c.in_ok-said.ensures.value
    c.names_seen-names.ensures
