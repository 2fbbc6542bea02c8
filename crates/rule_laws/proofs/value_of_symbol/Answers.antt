use Rattle.rule_laws.proofs.SymbolLaws.{value_of_symbol}
use Rattle.rule_laws.proofs.value_of_symbol.Goals as goal

pub returns : goal.returns
returns c = value_of_symbol
