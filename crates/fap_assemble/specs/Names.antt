-- proof: the symbols that a field may use, as a list.
use Rattle.std.specs.Prelude.{ℕ, List, [], take}
use Rattle.std.specs.Option.{option_map_or}
use Rattle.link_model.specs.Weights.{with_externs}
use Rattle.fap_assemble.specs.declared.names.Names.{Names}

abbrev pub externs_in : Names → List ℕ
externs_in n = option_map_or (λ e. e.now) n.externs []

abbrev pub names_in : Names → List (ℕ × ℕ)
names_in n = with_externs (externs_in n) (take n.visible n.symbols.now)
