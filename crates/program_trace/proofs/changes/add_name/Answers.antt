use Rattle.text_writer.proofs.Added.{◌⨾◌}
use Rattle.program_trace.proofs.changes.add_name.Goals as goal

pub returns : goal.returns
returns g c = c.add.ensures ⨾ c.add-2.ensures ⨾ c.add-3.ensures
