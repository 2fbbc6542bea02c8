use Rattle.std.proofs.Common.{◌≡◌, ◌++◌, map}
use Rattle.fap_model.specs.Listed.{symbol_value}
use Rattle.fap_assemble.proofs.symbols.Symbols.to_list.Given as goal

abbrev pub invariant-loop-name : goal.invariant-loop-name
invariant-loop-name l = l.list ++ map symbol_value l.name-iterator ≡ map symbol_value l.self
