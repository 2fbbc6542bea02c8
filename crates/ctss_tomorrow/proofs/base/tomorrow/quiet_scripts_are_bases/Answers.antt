use Rattle.ctss_tomorrow.proofs.Quiet as laws
use Rattle.ctss_tomorrow.proofs.base.tomorrow.quiet_scripts_are_bases.Goals as goal

pub returns : goal.returns
returns c = laws.quiet_scripts_are_bases
