use Rattle.std.proofs.Common.{refl}
use Rattle.schedule_figures.proofs.chart.row.Row.blank.Goals as goal

pub returns : goal.returns
returns c = record { each = refl; cells = refl }
