use Rattle.text_writer.proofs.Right.{file_line_is}
use Rattle.text_writer.proofs.Added.{adds_is}
use Rattle.text_writer.proofs.report.file.add_file_line.Goals as goal

pub returns : goal.returns
returns g c =
    adds_is
    (file_line_is c.args.file.now c.both_names-first.result.0 c.both_names-first.result.1 c.len.result c.both_names-first.ensures.first c.both_names-first.ensures.second c.len.ensures)
    c.add_columns.ensures
