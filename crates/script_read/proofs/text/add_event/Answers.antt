use Rattle.std.proofs.Common.{ap}
use Rattle.text_model.specs.Parts.{number}
use Rattle.text_writer.proofs.Added.{◌⨾◌, adds_is}
use Rattle.script_read.proofs.text.add_event.Goals as goal

pub returns : goal.returns
returns g c =
    (c.add.ensures ⨾ c.number.ensures ⨾ adds_is (ap number c.number-2.ensures.value) c.number-3.ensures ⨾ c.add_what.ensures) ⨾ c.end_line.ensures
