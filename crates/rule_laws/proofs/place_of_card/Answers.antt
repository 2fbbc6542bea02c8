use Rattle.rule_laws.proofs.PlaceLaws.{place_of_card}
use Rattle.rule_laws.proofs.place_of_card.Goals as goal

pub returns : goal.returns
returns c = place_of_card
