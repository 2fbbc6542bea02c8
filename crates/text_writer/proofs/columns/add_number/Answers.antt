use Rattle.std.proofs.Common.{◌∙◌}
use Rattle.text_writer.proofs.Added.{adds_is}
use Rattle.text_writer.proofs.columns.add_number.Goals as goal

pub returns : goal.returns
returns g c = adds_is (c.as_bytes.ensures.value ∙ c.format.ensures.text) c.add.ensures
