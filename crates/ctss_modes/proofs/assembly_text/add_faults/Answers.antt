use Rattle.text_writer.proofs.Added.{adds_none, adds_next, adds_all}
use Rattle.ctss_modes.specs.Faults.{line_of_fault}
use Rattle.ctss_modes.proofs.assembly_text.add_faults.Goals as goal

pub loop-fault-init : goal.loop-fault-init
loop-fault-init g c = adds_none g.K.Sink c.args.out.now

pub loop-fault-preserved : goal.loop-fault-preserved
loop-fault-preserved g c =
    adds_next g.K.Sink line_of_fault c.args.faults.now c.loop-fault.fault-index _ _ _ _ c.loop-fault-test.true c.loop-fault.invariant c.add_fault.ensures

pub returns : goal.returns
returns g c = adds_all g.K.Sink line_of_fault c.args.faults.now c.loop-fault.fault-index _ _ c.loop-fault-test.false c.loop-fault.invariant
