use Rattle.text_writer.proofs.Added.{◌⨾◌}
use Rattle.program_trace.proofs.changes.add_index_changes.Goals as goal

pub returns : goal.returns
returns g c =
    c.add_index_change.ensures ⨾ c.add_index_change-2.ensures ⨾ c.add_index_change-3.ensures ⨾ c.add_index_change-4.ensures ⨾ c.add_index_change-5.ensures
    ⨾ c.add_index_change-6.ensures ⨾ c.add_index_change-7.ensures
