use Rattle.text_writer.proofs.Added.{◌⨾◌}
use Rattle.script_read.proofs.text.add_file_card.Goals as goal

pub returns : goal.returns
returns g c =
    (c.add.ensures ⨾ c.number.ensures ⨾ c.name.ensures ⨾ c.name-2.ensures ⨾ c.number-2.ensures) ⨾ c.end_line.ensures
