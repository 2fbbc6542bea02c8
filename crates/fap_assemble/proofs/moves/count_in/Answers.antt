use Rattle.std.proofs.Common.{rules, ◌∙◌}
use Rattle.fap_assemble.specs.Moving.{moved_before}
use Rattle.fap_assemble.proofs.Moving.{count_read}
use Rattle.fap_assemble.proofs.moves.count_in.Goals as goal

pub returns : goal.returns
returns c =
    c.count.ensures
    ∙ count_read c.args.b.externs.now (moved_before c.args.b) c.args.op c.args.text.now c.in_ok-said.said (search rules) c.in_ok-said.ensures.value
