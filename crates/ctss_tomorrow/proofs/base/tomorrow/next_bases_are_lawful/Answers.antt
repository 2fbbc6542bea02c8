use Rattle.ctss_tomorrow.proofs.Bases as laws
use Rattle.ctss_tomorrow.proofs.base.tomorrow.next_bases_are_lawful.Goals as goal

pub returns : goal.returns
returns c = laws.next_bases_are_lawful
