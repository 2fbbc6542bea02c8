use Rattle.text_model.proofs.LawfulLaws.{scripts_are_lawful}
use Rattle.text_model.proofs.scripts_are_lawful.Goals as goal

pub returns : goal.returns
returns c = scripts_are_lawful
