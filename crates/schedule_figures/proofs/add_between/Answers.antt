use Rattle.text_writer.proofs.Added.{◌⨾◌}
use Rattle.schedule_figures.proofs.add_between.Goals as goal

pub returns : goal.returns
returns g c = c.add.ensures ⨾ c.add-2.ensures ⨾ c.add-3.ensures
