use Rattle.std.proofs.Common.{rules, ◌∙◌}
use Rattle.fap_assemble.specs.Moving.{moved_before}
use Rattle.fap_assemble.proofs.Moving.{equ_read}
use Rattle.fap_assemble.proofs.moves.equ_fault.Goals as goal

pub returns : goal.returns
returns c =
    c.fault.ensures
    ∙ equ_read c.args.b.externs.now (moved_before c.args.b) c.args.text.now c.in_ok-said.said c.is_none-wrong.result c.in_ok-said.ensures.value (search rules)
