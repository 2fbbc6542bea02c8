use Rattle.std.proofs.Common.{◌∙◌}
use Rattle.schedule_figures.proofs.Places.{left_is}
use Rattle.text_writer.proofs.Added.{◌⨾◌, adds_is}
use Rattle.schedule_figures.proofs.chart.numbers.add_left.Goals as goal

pub returns : goal.returns
returns g c =
    adds_is
    (left_is c.args.n c.saturating_sub.result c.as_bytes-digits.result.now (c.as_bytes-digits.ensures.value ∙ c.format.ensures.text) c.saturating_sub.ensures)
    (c.add.ensures ⨾ c.add_blanks.ensures)
