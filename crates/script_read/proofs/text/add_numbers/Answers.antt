use Rattle.text_model.specs.Parts.{number}
use Rattle.text_writer.proofs.Added.{adds_none, adds_next, adds_all}
use Rattle.script_read.proofs.text.add_numbers.Goals as goal

pub loop-n-init : goal.loop-n-init
loop-n-init g c = adds_none g.K.Sink c.args.out.now

pub loop-n-preserved : goal.loop-n-preserved
loop-n-preserved g c = adds_next g.K.Sink number c.args.numbers.now c.loop-n.n-index _ _ _ _ c.loop-n-test.true c.loop-n.invariant c.number.ensures

pub returns : goal.returns
returns g c = adds_all g.K.Sink number c.args.numbers.now c.loop-n.n-index _ _ c.loop-n-test.false c.loop-n.invariant
