use Rattle.picture_model.specs.Csv.{csv_row}
use Rattle.text_writer.proofs.Added.{adds_none, adds_more, adds_all}
use Rattle.schedule_figures.proofs.csv.add_rows.Goals as goal

pub loop-entry-init : goal.loop-entry-init
loop-entry-init g c = adds_none g.K.Sink c.args.out.now

pub loop-entry-preserved : goal.loop-entry-preserved
loop-entry-preserved g c =
    adds_more g.K.Sink (csv_row c.args.swap) c.args.entries.now c.loop-entry.entry-index c.entry-item.result _ _ _
    c.loop-entry-test.true c.entry-item.is c.loop-entry.invariant c.add_row.ensures

pub returns : goal.returns
returns g c = adds_all g.K.Sink (csv_row c.args.swap) c.args.entries.now c.loop-entry.entry-index _ _ c.loop-entry-test.false c.loop-entry.invariant
