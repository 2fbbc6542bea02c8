use Rattle.std.proofs.Common.{◌∙◌}
use Rattle.fap_assemble.specs.Wholes.{whole_in}
use Rattle.fap_assemble.proofs.Causes.{end_said}
use Rattle.fap_assemble.proofs.cause.end_cause.Goals as goal

pub returns : goal.returns
returns c =
    c.cause.ensures
    ∙ end_said (whole_in c.args.whole.now) c.args.visible c.args.place c.len.result c.len-more.result c.is_start_outside-wrong.result c.args.text.now c.in_ok-said.said
    c.in_ok-said.ensures.value c.len.ensures c.len-more.ensures c.is_start_outside-wrong.ensures
