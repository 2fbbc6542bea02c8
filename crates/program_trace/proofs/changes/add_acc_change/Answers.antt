use Rattle.std.proofs.Common.{◌&&◌, nat_eq, codes, sym, ◌∙◌}
use Rattle.text_writer.proofs.Added.{◌⨾◌, adds_is}
use Rattle.program_trace.specs.Registers.{acc_text, same_sign}
use Rattle.program_trace.proofs.Registers.{change_of}
use Rattle.program_trace.proofs.changes.add_acc_change.Goals as goal

pub returns-then-not-is_same_acc : goal.returns-then-not-is_same_acc
returns-then-not-is_same_acc g c =
    let a = c.args.before in
    let b = c.args.after in
    adds_is
    (change_of (same_sign a.negative b.negative && nat_eq a.magnitude b.magnitude) (codes "AC") (acc_text b) (sym c.is_same_acc.ensures ∙ c.if-not-is_same_acc.true))
    (c.add_name.ensures ⨾ c.add_acc.ensures)
