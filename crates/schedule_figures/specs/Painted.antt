-- proof: rows of cells while marks are painted over them, one after another.
use Rattle.std.specs.Prelude.{◌≡◌, ◌<◌, ◌≤◌, ℕ, max, List, map, fold, slice_index}
use Rattle.picture_model.specs.Marks.{Mark, character_at, cell}
use Rattle.schedule_figures.specs.declared.chart.row.Row.{Row}

-- no cell has less than a blank
abbrev pub AreSeen : Row → Type 0
AreSeen row = (k : ℕ) → k < 110 → 32 ≤ slice_index row.cells k

-- what comes of a row by these marks: in each cell the greatest character of what it had and of the marks over it
pub record Painted (marks : List Mark) (old new : Row) : Type 0 where
  pub same : new.each ≡ old.each
  pub seen : AreSeen old → AreSeen new
  pub cells : AreSeen old → (k : ℕ) → k < 110
      → slice_index new.cells k ≡ fold max (slice_index old.cells k) (map (character_at old.each k) marks)

-- the row that will be that of all these marks, once those that are left are painted
pub record IsOnTheWay (each : ℕ) (left all : List Mark) (row : Row) : Type 0 where
  pub same : row.each ≡ each
  pub seen : AreSeen row
  pub cells : (k : ℕ) → k < 110 → fold max (slice_index row.cells k) (map (character_at each k) left) ≡ cell each k all

-- the row of all these marks
pub record IsRowOf (each : ℕ) (marks : List Mark) (row : Row) : Type 0 where
  pub cells : (k : ℕ) → k < 110 → slice_index row.cells k ≡ cell each k marks
