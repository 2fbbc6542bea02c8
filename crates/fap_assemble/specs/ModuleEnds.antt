-- proof: a module's entries, by their names.
use Rattle.std.specs.Prelude.{ℕ, List, map}
use Rattle.fap_model.specs.Places.{value_in, or_zero}
use Rattle.link_model.specs.declared.types.ModuleEntry.{ModuleEntry}
use Rattle.link_model.specs.ModuleCards.{Relocated}

-- a symbol with its value
abbrev pub entry_named : Relocated → ℕ → ModuleEntry
entry_named r name = record { name = name; place = or_zero (value_in r.whole.names name) }

abbrev pub entries_named : Relocated → List ℕ → List ModuleEntry
entries_named r names = map (entry_named r) names
