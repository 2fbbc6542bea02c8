use Rattle.text_model.proofs.InRange.{scripts_are_in_range}
use Rattle.text_model.proofs.scripts_are_in_range.Goals as goal

pub returns : goal.returns
returns c = scripts_are_in_range
