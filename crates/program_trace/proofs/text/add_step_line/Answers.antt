use Rattle.std.proofs.Common.{ap}
use Rattle.word36.specs.Octal.{octal_digits}
use Rattle.text_writer.proofs.Added.{◌⨾◌, adds_is}
use Rattle.program_trace.proofs.text.add_step_line.Goals as goal

pub returns : goal.returns
returns g c =
    (c.add_column.ensures ⨾ c.add_gap.ensures ⨾ adds_is (ap (octal_digits 5) c.from.ensures) c.add_digits.ensures ⨾ c.add_gap-2.ensures ⨾ c.add_word_column.ensures
    ⨾ c.add_changes.ensures) ⨾ c.end_line.ensures
