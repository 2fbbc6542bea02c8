use Rattle.text_model.specs.Report.{entry_text}
use Rattle.text_writer.proofs.Added.{adds_none, adds_more, adds_all}
use Rattle.text_writer.proofs.report.entry.add_entries.Goals as goal

pub loop-entry-init : goal.loop-entry-init
loop-entry-init g c = adds_none g.K.Sink c.args.out.now

pub loop-entry-preserved : goal.loop-entry-preserved
loop-entry-preserved g c =
    adds_more g.K.Sink entry_text c.args.entries.now c.loop-entry.entry-index c.entry-item.result _ _ _
    c.loop-entry-test.true c.entry-item.is c.loop-entry.invariant c.add_entry.ensures

pub returns : goal.returns
returns g c = adds_all g.K.Sink entry_text c.args.entries.now c.loop-entry.entry-index _ _ c.loop-entry-test.false c.loop-entry.invariant
