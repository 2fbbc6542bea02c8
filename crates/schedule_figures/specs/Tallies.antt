-- proof: what the code keeps of some numbers.
use Rattle.std.specs.Prelude.{◌≡◌, ◌≤◌, ◌*◌, ◌^◌, ℕ, List, length, sum}
use Rattle.picture_model.specs.Figures.{greatest}
use Rattle.schedule_figures.specs.declared.tally.Tally.{Tally}

-- the code's tally is that of these numbers
pub record IsTally (t : Tally) (ns : List ℕ) : Type 0 where
  pub count : t.count ≡ length ns
  pub sum : t.sum ≡ sum ns
  pub greatest : t.greatest ≡ greatest ns

-- at most so many numbers, each below 2 ^ 65
pub record IsTallyOfFew (n : ℕ) (t : Tally) : Type 0 where
  pub count : t.count ≤ n
  pub sum : t.sum ≤ 2 ^ 65 * n
