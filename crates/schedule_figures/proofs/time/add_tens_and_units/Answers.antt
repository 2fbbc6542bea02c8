use Rattle.std.proofs.Common.{arith}
use Rattle.text_writer.proofs.Added.{◌⨾◌, adds_is}
use Rattle.schedule_figures.proofs.Columns.{tens_and_units, no_tens}
use Rattle.schedule_figures.proofs.time.add_tens_and_units.Goals as goal

pub returns-then-tens-eq0 : goal.returns-then-tens-eq0
returns-then-tens-eq0 g c = adds_is (no_tens c.args.tens c.args.units (omega arith)) c.add_number.ensures

pub returns-else-tens-eq0 : goal.returns-else-tens-eq0
returns-else-tens-eq0 g c =
    adds_is (tens_and_units c.args.tens c.args.units (omega arith) (omega arith) c.requires) (c.add_number-else-tens-eq0.ensures ⨾ c.add_number-else-tens-eq0-2.ensures)
