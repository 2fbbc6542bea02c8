use Rattle.std.proofs.Common.{sym, ap, ◌∙◌}
use Rattle.text_writer.proofs.Added.{◌⨾◌, adds_is}
use Rattle.program_trace.specs.Texts.{symbol_text}
use Rattle.program_trace.proofs.text.add_symbol.Goals as goal

pub returns-in-Some : goal.returns-in-Some
returns-in-Some g c =
    adds_is (sym (ap symbol_text c.in-Some.is)) (c.add.ensures ⨾ adds_is (c.as_slice.ensures.value ∙ c.name_text.ensures.value) c.add-in-Some.ensures)
