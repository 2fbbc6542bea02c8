use Rattle.system_model.proofs.AloneLaws.{users_are_alone}
use Rattle.system_model.proofs.users_are_alone.Goals as goal

pub returns : goal.returns
returns c = users_are_alone
