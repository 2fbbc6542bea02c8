use Rattle.system_model.proofs.AloneLaws.{commons_are_one}
use Rattle.system_model.proofs.commons_are_one.Goals as goal

pub returns : goal.returns
returns c = commons_are_one
