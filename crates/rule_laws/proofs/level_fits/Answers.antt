use Rattle.rule_laws.proofs.LevelLaws.{level_fits}
use Rattle.rule_laws.proofs.level_fits.Goals as goal

pub returns : goal.returns
returns c = level_fits
