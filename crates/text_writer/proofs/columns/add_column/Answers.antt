use Rattle.std.proofs.Common.{ap, ◌∙◌}
use Rattle.text_model.specs.Parts.{in_places}
use Rattle.text_writer.proofs.Added.{adds_is}
use Rattle.text_writer.proofs.columns.add_column.Goals as goal

pub returns : goal.returns
returns g c = adds_is (ap (in_places c.args.places) (c.as_bytes.ensures.value ∙ c.format.ensures.text)) c.add_in_places.ensures
