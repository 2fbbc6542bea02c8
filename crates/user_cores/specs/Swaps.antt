-- proof: the drum calls of a load.
use Rattle.std.specs.Prelude.{◌≡◌, ◌<◌, ℕ, List, length, Option}
use Rattle.medium.specs.Medium.{Call, CallList}
use Rattle.image_map.specs.Loads.{with_calls, cut, count_writes, count_reads}

-- between two moments just so many writes and reads were made of the drum, where it tells its calls
pub record IsMade (was now : Option CallList) (writes reads : ℕ) : Type 0 where
  pub calls : List Call
  pub made : now ≡ with_calls was calls
  pub writes_are : count_writes calls ≡ writes
  pub reads_are : count_reads calls ≡ reads

-- some of so many calls were made, from the first on, and the last one that was made failed
pub record IsCutOff (was now : Option CallList) (most : ℕ) : Type 0 where
  pub calls : List Call
  pub at : ℕ
  pub within : at < length calls
  pub few : length calls ≡ most
  pub made : now ≡ with_calls was (cut calls at)
