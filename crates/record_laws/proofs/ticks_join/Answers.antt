use Rattle.record_laws.proofs.Loaded as laws
use Rattle.record_laws.proofs.ticks_join.Goals as goal

pub returns : goal.returns
returns c = laws.ticks_join
