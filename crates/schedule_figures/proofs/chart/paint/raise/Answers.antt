use Rattle.std.proofs.Common.{◌≡◌, ◌<◌, ◌≤◌, ℕ, max, arith}
use Rattle.schedule_figures.proofs.chart.paint.raise.Goals as goal

-- a cell behind those that were gone over
kept : (column first behind k now was : ℕ) → column ≤ max first behind → behind ≤ k → (k < first → now ≡ was) → (column ≤ k → now ≡ was) → now ≡ was
kept column first behind k now was reached past before later = grind arith

pub returns-clause-behind : goal.returns-clause-behind
returns-clause-behind c k past =
    kept c.loop-column.column c.args.first c.args.behind k _ _ c.loop-column.invariant.reached past (c.loop-column.invariant.before k) (c.loop-column.invariant.behind k)
