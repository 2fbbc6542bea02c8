use Rattle.text_model.specs.Report.{item_text}
use Rattle.text_writer.proofs.Added.{adds_none, adds_more, adds_all}
use Rattle.text_writer.proofs.report.account.add_items.Goals as goal

pub loop-item-init : goal.loop-item-init
loop-item-init g c = adds_none g.K.Sink c.args.out.now

pub loop-item-preserved : goal.loop-item-preserved
loop-item-preserved g c =
    adds_more g.K.Sink item_text c.args.items.now c.loop-item.item-index c.item-item.result _ _ _
    c.loop-item-test.true c.item-item.is c.loop-item.invariant c.add_item.ensures

pub returns : goal.returns
returns g c = adds_all g.K.Sink item_text c.args.items.now c.loop-item.item-index _ _ c.loop-item-test.false c.loop-item.invariant
