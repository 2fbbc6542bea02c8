use Rattle.std.proofs.Common.{ap, arith}
use Rattle.std.proofs.lemmas.List.{drop_all}
use Rattle.picture_model.specs.Folds.{all_cut}
use Rattle.schedule_figures.proofs.Visits.{one_less}
use Rattle.schedule_figures.proofs.chart.place.all_cut.Goals as goal

pub loop-entry-preserved : goal.loop-entry-preserved
loop-entry-preserved c = record {
  all = omega (arith, c.cut_of.ensures, ap all_cut (one_less c.args.entries.now c.loop-entry.entry-index c.entry-item.result c.loop-entry-test.true c.entry-item.is));
  below = omega arith;
}

pub returns : goal.returns
returns c = omega (arith, ap all_cut (drop_all c.loop-entry.entry-index c.args.entries.now c.loop-entry-test.false))
