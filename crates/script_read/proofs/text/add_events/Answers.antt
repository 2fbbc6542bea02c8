use Rattle.text_model.specs.Canonical.{event_card}
use Rattle.text_writer.proofs.Added.{adds_none, adds_more, adds_all}
use Rattle.script_read.proofs.text.add_events.Goals as goal

pub loop-timed-init : goal.loop-timed-init
loop-timed-init g c = adds_none g.K.Sink c.args.out.now

pub loop-timed-preserved : goal.loop-timed-preserved
loop-timed-preserved g c =
    adds_more g.K.Sink event_card c.args.events.now c.loop-timed.timed-index c.timed-item.result _ _ _
    c.loop-timed-test.true c.timed-item.is c.loop-timed.invariant c.add_event.ensures

pub returns : goal.returns
returns g c = adds_all g.K.Sink event_card c.args.events.now c.loop-timed.timed-index _ _ c.loop-timed-test.false c.loop-timed.invariant
