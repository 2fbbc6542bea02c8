use Rattle.rule_laws.proofs.AssemblyLaws.{deck_is_stored}
use Rattle.rule_laws.proofs.deck_is_stored.Goals as goal

pub returns : goal.returns
returns c = deck_is_stored
