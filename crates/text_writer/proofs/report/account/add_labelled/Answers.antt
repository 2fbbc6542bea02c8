use Rattle.std.proofs.Common.{ap}
use Rattle.text_model.specs.Parts.{line}
use Rattle.text_writer.proofs.Lines.{label_is}
use Rattle.text_writer.proofs.Added.{◌⨾◌, adds_is}
use Rattle.text_writer.proofs.report.account.add_labelled.Goals as goal

pub returns : goal.returns
returns g c = adds_is (ap line (label_is c.args.letter c.args.text.now)) ((c.add.ensures ⨾ c.typed.ensures) ⨾ c.end_line.ensures)
