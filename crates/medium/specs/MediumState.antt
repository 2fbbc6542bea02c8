-- proof: a medium in memory, as contracts see it, and what its calls make of it.
use Rattle.std.specs.Prelude.{ℕ, Bool, nat_eq, if◌then◌else◌, List, [], length, slice_index_or, slice_set, Option}
use Rattle.std.specs.List.{list_any}
use Rattle.faults.specs.Faults.{one_further}
use Rattle.medium.specs.Medium.{CallList, read_call, write_call, with_call}
use Rattle.medium.specs.Called.{MediumSeen}
use Rattle.medium.specs.Damages.{damaged_words}
use Rattle.medium.specs.Rows.{told_rows}
use Rattle.medium.specs.declared.memory.Damage.{Damage}

-- what the records hold, the numbers of the calls that fail, the damages, how many calls, reads and faults there were, and the list of calls
pub record MediumState : Type 0 where
  pub contents : List (List ℕ)
  pub words_each : ℕ
  pub fails : List ℕ
  pub damages : List Damage
  pub call_count : ℕ
  pub read_count : ℕ
  pub fault_count : ℕ
  pub calls : Option CallList

-- what the records hold, where they are told
abbrev pub rows_told : MediumState → Option (List (List ℕ))
rows_told m = told_rows m.damages m.contents

-- what is seen of it
abbrev pub memory_seen : MediumState → MediumSeen
memory_seen m =
    record { contents = rows_told m; count = length m.contents; each = m.words_each; calls = m.calls; faults = m.fault_count }

-- whether the next call is one of those that fail
abbrev pub fails_next : MediumState → Bool
fails_next m = list_any (λ n. nat_eq n (one_further m.call_count)) m.fails

-- the words that the next read gives, where it reads this record and does not fail
abbrev pub words_read : MediumState → ℕ → List ℕ
words_read m at = damaged_words m.damages (one_further m.read_count) (slice_index_or m.contents at [])

-- the count of faults after the next call
abbrev pub faults_after : MediumState → ℕ
faults_after m = if fails_next m then one_further m.fault_count else m.fault_count

-- a medium after a read of a record
abbrev pub after_read : MediumState → ℕ → MediumState
after_read m at = record m {
  call_count = one_further m.call_count;
  read_count = one_further m.read_count;
  fault_count = faults_after m;
  calls = with_call m.calls (read_call at (fails_next m) (words_read m at));
}

-- a medium after a write of these words into a record
abbrev pub after_write : MediumState → ℕ → List ℕ → MediumState
after_write m at words = record m {
  contents = (if fails_next m then m.contents else slice_set m.contents at words);
  call_count = one_further m.call_count;
  fault_count = faults_after m;
  calls = with_call m.calls (write_call at (fails_next m));
}
