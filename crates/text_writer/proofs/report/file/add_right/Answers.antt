use Rattle.std.proofs.Common.{◌∙◌}
use Rattle.std.specs.Fmt.{decimal}
use Rattle.text_writer.proofs.Right.{right_is}
use Rattle.text_writer.proofs.Added.{◌⨾◌, adds_is}
use Rattle.text_writer.proofs.report.file.add_right.Goals as goal

pub returns : goal.returns
returns g c =
    adds_is
    (right_is (decimal c.args.number) c.split_at.result.1.now c.as_bytes-digits.result.now c.min.result c.min.ensures c.split_at.ensures.back
    (c.as_bytes-digits.ensures.value ∙ c.format.ensures.text))
    (c.blank.ensures ⨾ c.add.ensures)
