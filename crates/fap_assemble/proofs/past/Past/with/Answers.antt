use Rattle.fap_assemble.proofs.Judging.{past_parts}
use Rattle.fap_assemble.proofs.past.Past.with.Goals as goal

pub returns : goal.returns
returns c =
    past_parts c.args.self c.args.text.now c.only_with.result c.in_ok-named.named c.count_with.result c.in_ok-used.used c.count_with-2.result
    c.only_with.ensures c.in_ok-named.ensures.value c.count_with.ensures c.in_ok-used.ensures.value c.count_with-2.ensures
