-- proof: what the fields of a medium in memory stand for.
use Rattle.std.specs.Prelude.{◌≡◌}
use Rattle.std.specs.List.{All}
use Rattle.medium.specs.Rows.{IsRecord}
use Rattle.medium.specs.Damages.{IsDamage}
use Rattle.medium.specs.MediumState.{MediumState}
use Rattle.medium.specs.declared.memory.MemoryMedium.TheInside.{Inside}

-- the fields as a state
abbrev pub medium_state : Inside → MediumState
medium_state m = record {
  contents = m.pages.contents;
  words_each = m.log.words_each;
  fails = m.fails.items;
  damages = m.damages.items;
  call_count = m.call_count;
  read_count = m.read_count;
  fault_count = m.fault_count;
  calls = m.log.calls;
}

-- each record has its words, and the damages lie in a record
pub record IsMedium (m : Inside) : Type 0 where
  pub contents : All (λ row. IsRecord m.log.words_each row) m.pages.contents
  pub each : m.pages.each ≡ m.log.words_each
  pub damages : All (λ d. IsDamage m.log.words_each d) m.damages.items
