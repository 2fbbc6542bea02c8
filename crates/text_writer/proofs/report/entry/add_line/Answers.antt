use Rattle.std.proofs.Common.{◌∷◌, [], sym, append_assoc}
use Rattle.text_writer.specs.Lines.{spaced}
use Rattle.text_writer.proofs.Added.{◌⨾◌, adds_is}
use Rattle.text_writer.proofs.report.entry.add_line.Goals as goal

pub returns : goal.returns
returns g c = adds_is (sym (append_assoc c.args.word.now (spaced c.args.numbers.now) (10 ∷ []))) (c.add.ensures ⨾ c.end_by.ensures)
