use Rattle.std.proofs.Common.{sym, ◌∙◌}
use Rattle.text_writer.proofs.Added.{◌⨾◌, adds_is}
use Rattle.program_trace.specs.Registers.{same_sign, on_text}
use Rattle.program_trace.proofs.Registers.{change_of}
use Rattle.program_trace.proofs.changes.add_indicator_change.Goals as goal

pub returns-then-not-is_same : goal.returns-then-not-is_same
returns-then-not-is_same g c =
    adds_is
    (change_of (same_sign c.args.before c.args.after) c.args.name.now (on_text c.args.after) (sym c.is_same.ensures ∙ c.if-not-is_same.true))
    (c.add_name.ensures ⨾ adds_is c.on_text.ensures c.add.ensures)
