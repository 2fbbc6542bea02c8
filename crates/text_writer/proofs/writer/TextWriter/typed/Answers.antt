use Rattle.std.proofs.Common.{sym, ap, ◌∙◌}
use Rattle.text_model.specs.Parts.{blank}
use Rattle.text_writer.proofs.Added.{adds_is, adds_none, typed_some, typed_none}
use Rattle.text_writer.proofs.writer.TextWriter.typed.Goals as goal

pub returns-then-not-is_empty : goal.returns-then-not-is_empty
returns-then-not-is_empty g c =
    adds_is (ap blank c.as_slice.ensures.value ∙ typed_some c.args.text.now (sym c.is_empty.ensures ∙ c.if-not-is_empty.true)) c.blank.ensures

pub returns-else-not-is_empty : goal.returns-else-not-is_empty
returns-else-not-is_empty g c = adds_is (typed_none c.args.text.now (sym c.is_empty.ensures ∙ c.if-not-is_empty.false)) (adds_none g.K.Sink c.args.self.now)
