use Rattle.rule_laws.proofs.StoreLaws.{segments_are_stored}
use Rattle.rule_laws.proofs.segments_are_stored.Goals as goal

pub returns : goal.returns
returns c = segments_are_stored
