use Rattle.rule_laws.proofs.WordLaws.{code_is_back}
use Rattle.rule_laws.proofs.code_is_back.Goals as goal

pub returns : goal.returns
returns c = code_is_back
