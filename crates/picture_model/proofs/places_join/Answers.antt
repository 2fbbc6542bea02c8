use Rattle.picture_model.proofs.Places as laws
use Rattle.picture_model.proofs.places_join.Goals as goal

pub returns : goal.returns
returns c = laws.places_join
