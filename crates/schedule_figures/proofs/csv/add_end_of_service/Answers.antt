use Rattle.std.proofs.Common.{◌∙◌}
use Rattle.text_writer.proofs.Added.{◌⨾◌, adds_is}
use Rattle.schedule_figures.proofs.csv.add_end_of_service.Goals as goal

pub returns : goal.returns
returns g c = c.add.ensures ⨾ adds_is (c.as_bytes.ensures.value ∙ c.word.ensures) c.add-2.ensures ⨾ c.add-3.ensures
