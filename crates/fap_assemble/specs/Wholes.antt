-- proof: what all cards together tell, as the code holds it.
use Rattle.std.specs.Prelude.{ℕ, Bool, false, if◌then◌else◌, List, length, Option, Some}
use Rattle.fap_model.specs.declared.types.Operation.{Operation}
use Rattle.fap_model.specs.Places.{looks_back}
use Rattle.fap_model.specs.Decks as decks
use Rattle.fap_assemble.specs.declared.field.Said.{Said}
use Rattle.fap_assemble.specs.declared.field.Said.TheVariants.{Value}
use Rattle.fap_assemble.specs.declared.tables.Tables.{Tables}
use Rattle.fap_assemble.specs.declared.whole.Whole.{Whole}

abbrev pub whole_in : Whole → decks.Whole
whole_in w = record { names = w.symbols; literals = w.literals; end_place = w.end_place; blocks = w.blocks }

abbrev pub whole_of_tables : Tables → decks.Whole
whole_of_tables t = record {
  names = t.symbols;
  literals = t.literals;
  end_place = t.place;
  blocks = decks.blocks_for (decks.reach_of t.reach t.place (length t.literals));
}

abbrev pub is_start_outside : ℕ → Option Said → Bool
is_start_outside blocks (Some (Value v)) = decks.is_outside blocks v
is_start_outside blocks s = false

-- how many symbols a field may use
abbrev pub names_seen : Operation → List (ℕ × ℕ) → ℕ → ℕ
names_seen o symbols visible = if looks_back o then visible else length symbols
