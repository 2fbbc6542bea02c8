use Rattle.std.proofs.Common.{arith}
use Rattle.ctss_types.specs.Params.{least_numbers}
use Rattle.script_read.proofs.WrittenOut.{one_fewer, least_are_written, others_are_written}
use Rattle.script_read.proofs.params.written_out.Goals as goal
use Rattle.script_read.proofs.params.written_out.Goals.{then-zeros-test+else-numbers-count-eq0, else-zeros-test}

pub zeros-preserved : goal.zeros-preserved
zeros-preserved c =
    record {
      within = omega (arith, c.zeros.invariant.within);
      same = one_fewer least_numbers c.args.numbers.now c.zeros.count c.zeros-test.true c.zeros.invariant.within c.if-numbers-count-eq0.true c.zeros.invariant.same;
    }

pub returns : goal.returns
returns c =
    elim c.zeros-test.branch [
      | then-zeros-test+else-numbers-count-eq0 w ↦
          others_are_written least_numbers c.args.numbers.now c.zeros.count (omega (arith, w.zeros-test.true)) c.zeros.invariant.within w.if-numbers-count-eq0.false c.zeros.invariant.same
      | else-zeros-test w ↦ least_are_written least_numbers c.args.numbers.now c.zeros.count w.zeros-test.false c.zeros.invariant.same
    ]
