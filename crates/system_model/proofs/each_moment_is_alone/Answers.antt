use Rattle.system_model.proofs.AloneLaws as laws
use Rattle.system_model.proofs.each_moment_is_alone.Goals as goal

pub returns : goal.returns
returns c = laws.each_moment
