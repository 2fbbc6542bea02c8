use Rattle.std.proofs.Common.{ap}
use Rattle.text_model.specs.Parts.{blank}
use Rattle.text_writer.proofs.Added.{◌⨾◌, adds_is}
use Rattle.text_writer.proofs.report.file.add_columns.Goals as goal

pub returns : goal.returns
returns g c =
    (adds_is c.as_slice.ensures.value c.add.ensures ⨾ adds_is (ap blank c.as_slice-2.ensures.value) c.blank.ensures ⨾ c.number.ensures ⨾ c.add_right.ensures)
    ⨾ c.end_line.ensures
