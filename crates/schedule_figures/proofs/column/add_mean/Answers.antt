use Rattle.std.proofs.Common.{arith}
use Rattle.text_writer.proofs.Added.{adds_is}
use Rattle.schedule_figures.proofs.Columns.{mean_none, mean_some}
use Rattle.schedule_figures.proofs.column.add_mean.Goals as goal

pub returns-then-count-eq0 : goal.returns-then-count-eq0
returns-then-count-eq0 g c = adds_is (mean_none c.args.count c.args.sum (omega arith)) c.add_in_places.ensures

pub returns-else-count-eq0 : goal.returns-else-count-eq0
returns-else-count-eq0 g c = adds_is (mean_some c.args.count c.args.sum (omega arith)) c.add_tenths.ensures
