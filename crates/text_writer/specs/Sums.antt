-- proof: the sums that the code has, over a schedule.
use Rattle.std.specs.Prelude.{◌≡◌, ◌≤◌, ℕ, List}
use Rattle.ctss_types.specs.declared.history.Entry.{Entry}
use Rattle.time_sharing.specs.Sums.{serves_in, swaps_in, dumped_in, read_in, steps_in}
use Rattle.text_writer.specs.declared.report.schedule.Sums.{Sums}

abbrev pub TheEntries : Type 0
TheEntries = List Entry

pub record AreSums (s : Sums) (es : List Entry) : Type 0 where
  pub serves : s.serves ≡ serves_in es
  pub swaps : s.swaps ≡ swaps_in es
  pub dumped : s.dumped ≡ dumped_in es
  pub read : s.read ≡ read_in es
  pub steps : s.steps ≡ steps_in es

-- each sum is at most so much
pub record AreBelow (n : ℕ) (s : Sums) : Type 0 where
  pub serves : s.serves ≤ n
  pub swaps : s.swaps ≤ n
  pub dumped : s.dumped ≤ n
  pub read : s.read ≤ n
  pub steps : s.steps ≤ n
