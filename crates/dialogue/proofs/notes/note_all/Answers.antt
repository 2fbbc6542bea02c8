use Rattle.std.proofs.Common.{◌∙◌, ◌++◌, List, ap, arith}
use Rattle.time_sharing.specs.Machine.{Item}
use Rattle.dialogue.proofs.Lines.{out_whole}
use Rattle.dialogue.proofs.notes.note_all.Goals as goal

pub returns-clause-items : goal.returns-clause-items
returns-clause-items c = c.lines.invariant.noted ∙ ap (λ (xs : List Item). c.args.items.now.items ++ xs) (out_whole _ c.args.lines.now (omega arith))
