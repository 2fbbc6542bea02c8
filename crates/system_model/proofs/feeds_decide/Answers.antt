use Rattle.system_model.proofs.AloneLaws as laws
use Rattle.system_model.proofs.feeds_decide.Goals as goal

pub returns : goal.returns
returns c = laws.feeds_decide
