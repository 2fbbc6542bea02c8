use Rattle.std.proofs.Common.{ap}
use Rattle.word36.specs.Octal.{octal_digits}
use Rattle.text_writer.proofs.Added.{◌⨾◌, adds_is}
use Rattle.program_trace.proofs.changes.add_acc.Goals as goal

pub returns : goal.returns
returns g c = adds_is c.acc_sign.ensures c.add.ensures ⨾ adds_is (ap (octal_digits 13) c.magnitude.ensures.value) c.add_digits.ensures
