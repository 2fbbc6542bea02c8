use Rattle.std.proofs.Common.{◌∙◌, not, sym, ap}
use Rattle.time_sharing.specs.Rows.{some_line}
use Rattle.dialogue.specs.Said.{Said}
use Rattle.dialogue.proofs.Lines.{unread_some}
use Rattle.dialogue.proofs.Dialogue.has_line.Goals as goal

pub returns-then-not-is_empty : goal.returns-then-not-is_empty
returns-then-not-is_empty c =
    ap not c.if-not-is_empty.true ∙ sym (ap (λ (d : Said). some_line d.unread) (sym c.self.view_is) ∙ unread_some c.self.inside.commands _ (ap not (sym c.is_empty.ensures ∙ c.if-not-is_empty.true)))
