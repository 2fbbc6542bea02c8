use Rattle.rule_laws.proofs.DeckLaws.{deck_is_laid}
use Rattle.rule_laws.proofs.deck_is_laid.Goals as goal

pub returns : goal.returns
returns c = deck_is_laid
