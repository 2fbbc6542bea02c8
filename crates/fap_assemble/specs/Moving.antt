-- proof: what a card of a module does, as the code holds it.
use Rattle.std.specs.Prelude.{ℕ, ◌+◌, List, [], take, Option}
use Rattle.fap_model.specs.declared.types.Operation.{Operation}
use Rattle.fap_model.specs.Places.{with_symbol}
use Rattle.link_model.specs.Moves.{Moved, table_with, equs_with}
use Rattle.fap_assemble.specs.Fields.{known_at}
use Rattle.fap_assemble.specs.declared.moves.Before.{Before}
use Rattle.fap_assemble.specs.declared.moves.Moves.{Moves}

-- what is known before a card; nothing that it tells of fields depends on the EQUs
abbrev pub moved_before : Before → Moved
moved_before b = record { known = known_at b.symbols.now b.visible b.place; weights = take b.weighed b.weights.now; equs = [] }

abbrev pub known_moves : List (ℕ × ℕ) → List ℕ → Moved
known_moves symbols equs = record { known = record { place = 0; symbols = symbols }; weights = []; equs = equs }

abbrev pub moves_in : Moves → Moved
moves_in t = record { known = record { place = t.place; symbols = t.symbols }; weights = t.weights; equs = t.equs }

-- what is known behind a card of this size, whose symbol is worth this
abbrev pub moved_by : Moved → Option Operation → Option ℕ → ℕ → ℕ × ℕ → Moved
moved_by m o name size worth = record {
  known = record { place = m.known.place + size; symbols = with_symbol m.known name worth.0 };
  weights = table_with m.weights name worth.1;
  equs = equs_with m o name;
}
