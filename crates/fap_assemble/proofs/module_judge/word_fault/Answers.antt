use Rattle.std.proofs.Common.{rules, ◌∙◌}
use Rattle.fap_assemble.specs.Judging.{relocated_in, moved_at}
use Rattle.fap_assemble.proofs.Judging.{word_read}
use Rattle.fap_assemble.proofs.module_judge.word_fault.Goals as goal

pub returns : goal.returns
returns c =
    c.fault_known.ensures
    ∙ word_read (relocated_in c.args.r.now) c.args.past.now (moved_at c.args.r.now c.args.spot) c.args.text.now c.in_ok-said.said c.is_known.result c.is_none-wrong.result
    c.is_known.ensures c.args.op c.in_ok-said.ensures.value (search rules)
