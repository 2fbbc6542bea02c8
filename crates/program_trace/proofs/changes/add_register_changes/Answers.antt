use Rattle.text_writer.proofs.Added.{◌⨾◌}
use Rattle.program_trace.proofs.changes.add_register_changes.Goals as goal

pub returns : goal.returns
returns g c =
    c.add_acc_change.ensures ⨾ c.add_word_change.ensures ⨾ c.add_word_change-2.ensures ⨾ c.add_index_changes.ensures ⨾ c.add_indicator_change.ensures
    ⨾ c.add_indicator_change-2.ensures
