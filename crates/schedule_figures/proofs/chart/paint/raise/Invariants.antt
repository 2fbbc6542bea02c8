use Rattle.std.proofs.Common.{◌≡◌, ◌<◌, ◌≤◌, ℕ, max, slice_index}
use Rattle.schedule_figures.proofs.chart.paint.raise.Given as goal

-- the cells so far were raised, and no other
abbrev pub invariant-loop-column : goal.invariant-loop-column
invariant-loop-column l = record {
  before : (k : ℕ) → k < l.first → slice_index l.cells k ≡ slice_index l.fn.cells k;
  within : (k : ℕ) → l.first ≤ k → k < l.column → slice_index l.cells k ≡ max (slice_index l.fn.cells k) l.character;
  reached : l.column ≤ max l.first l.behind;
  behind : (k : ℕ) → l.column ≤ k → slice_index l.cells k ≡ slice_index l.fn.cells k;
}
