use Rattle.rule_laws.proofs.Law.{deck_is_linked}
use Rattle.rule_laws.proofs.links.deck_is_linked.Goals as goal

pub returns : goal.returns
returns c = deck_is_linked
