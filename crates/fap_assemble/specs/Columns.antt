-- proof: what the items of a field are tested for.
use Rattle.std.specs.Prelude.{ℕ, Bool, nat_eq, List, take, Option, Some, None}
use Rattle.fap_model.specs.Statements.{address_of}
use Rattle.fap_model.specs.declared.types.Operation.{Operation}
use Rattle.fap_model.specs.Causes.{is_of_form, address_has_value, field_column}
use Rattle.fap_assemble.specs.declared.column.ItemTest.{ItemTest}
use Rattle.fap_assemble.specs.declared.column.ItemTest.TheVariants.{OfForm, First, HasValue}
use Rattle.fap_assemble.specs.Wholes.{names_seen}

abbrev pub passes : ItemTest → List (ℕ × ℕ) → ℕ → List ℕ → Bool
passes (OfForm form) names index item = is_of_form form index item
passes First names index item = nat_eq index 0
passes HasValue names index item = address_has_value names (address_of item)

-- the column of a symbol without a value, among so many of a table
abbrev pub value_column : Option Operation → List (ℕ × ℕ) → ℕ → List ℕ → ℕ
value_column None symbols visible card = 16
value_column (Some o) symbols visible card = field_column (passes HasValue (take (names_seen o symbols visible) symbols)) card
