-- The rows of specs/Rows, by computing.
use Rattle.std.proofs.Common.{refl}
use Rattle.std.specs.Fmt.{digits}
use Rattle.picture_model.specs.Drawing.{attribute, text_begun}
use Rattle.picture_model.specs.Rows.{RowOfVisits, RowOfFigures, RowOfCells, RowOfCore}

pub row_of_visits : RowOfVisits
row_of_visits = record { seen = refl; waits = refl; responses = refl; turnarounds = refl }

pub row_of_figures : RowOfFigures
unfolding digits
row_of_figures = record {
  lines = refl;
  served = refl;
  other = refl;
  level = refl;
  ticks = refl;
  none = refl;
  mean = refl;
  column = refl;
}

pub row_of_cells : RowOfCells
unfolding digits attribute text_begun
row_of_cells = record {
  cut = refl;
  before = refl;
  behind = refl;
  served = refl;
  other = refl;
  events = refl;
  level = refl;
  each = refl;
  columns = refl;
  few = refl;
  words = refl;
}

pub row_of_core : RowOfCore
unfolding digits attribute text_begun
row_of_core = record {
  first = refl;
  inside = refl;
  second = refl;
  free = refl;
  three = refl;
  two = refl;
  rest = refl;
  loads = refl;
  last = refl;
  folded = refl;
  narrow = refl;
  wide = refl;
}
