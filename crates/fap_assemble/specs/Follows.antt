-- proof: what the passes behind the first one keep: the symbols known so far are the first of the whole table.
use Rattle.std.specs.Prelude.{◌≡◌, ℕ, ◌≤◌, List, length, map}
use Rattle.fap_model.specs.Places.{known_after}
use Rattle.fap_assemble.specs.declared.fault.CardFault.{CardFault}
use Rattle.fap_assemble.specs.Fields.{known_at}

abbrev pub numbered : List CardFault → List (ℕ × ℕ)
numbered faults = map (λ (f : CardFault). (f.card, f.number)) faults

pub record Follows (symbols : List (ℕ × ℕ)) (visible place : ℕ) (rest : List (List ℕ)) : Type 0 where
  pub all : (known_after (known_at symbols visible place) rest).symbols ≡ symbols
  pub within : visible ≤ length symbols
