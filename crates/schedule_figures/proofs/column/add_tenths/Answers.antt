use Rattle.std.proofs.Common.{◌∙◌}
use Rattle.text_writer.proofs.Added.{◌⨾◌, adds_is}
use Rattle.schedule_figures.proofs.Columns.{tenths_placed}
use Rattle.schedule_figures.proofs.column.add_tenths.Goals as goal

pub returns : goal.returns
returns g c =
    adds_is
    (tenths_placed c.args.n c.saturating_sub.result c.as_bytes-whole.result.now c.as_bytes-tenth.result.now
    (c.as_bytes-whole.ensures.value ∙ c.format.ensures.text) (c.as_bytes-tenth.ensures.value ∙ c.format-2.ensures.text) c.saturating_sub.ensures)
    (c.add_blanks.ensures ⨾ c.add.ensures ⨾ c.add-2.ensures ⨾ c.add-3.ensures)
