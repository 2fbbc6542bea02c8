-- claim: the drum calls of a run, counted by the loads of its schedule.
use Rattle.std.specs.Prelude.{◌≡◌, ℕ, ◌+◌, ◌<◌, List, ◌++◌, length, Option}
use Rattle.time_sharing.specs.System.{Entry}
use Rattle.medium.specs.Medium.{Call, CallList}
use Rattle.image_map.specs.Loads.{with_calls, cut, count_writes, count_reads}
use Rattle.plan_model.specs.Loads.{dumps, reads}
use Rattle.user_model.specs.Inner.{blocks_of}
use Rattle.system_model.specs.Run.{Run}
use Rattle.system_model.specs.Cases.{user_at}
use Rattle.time_sharing.specs.Sums.{dumped_in, read_in}

-- Between two moments the drum was called just as the loads say that the schedule gained: a write for each block that was
-- dumped, a read for each that was read, where the drum tells its calls.
pub record IsCounted (had has : List Entry) (was now : Option CallList) : Type 0 where
  pub calls : List Call
  pub made : now ≡ with_calls was calls
  pub writes : dumped_in has ≡ dumped_in had + count_writes calls
  pub reads : read_in has ≡ read_in had + count_reads calls

-- how many calls bring a user's blocks into core
abbrev pub calls_to_load : ℕ → Run → ℕ
calls_to_load u r =
    let n = blocks_of (user_at u r.system.users).inner in
    dumps r.system.plan.places u n + reads r.system.plan.places u n

-- so it was, and then a load of so many calls was cut off: some of them were made, from the first on, and the last one that was
-- made failed
pub record IsCountedToLoad (had has : List Entry) (was now : Option CallList) (most : ℕ) : Type 0 where
  pub calls : List Call
  pub load : List Call
  pub at : ℕ
  pub within : at < length load
  pub few : length load ≡ most
  pub made : now ≡ with_calls was (calls ++ cut load at)
  pub writes : dumped_in has ≡ dumped_in had + count_writes calls
  pub reads : read_in has ≡ read_in had + count_reads calls
