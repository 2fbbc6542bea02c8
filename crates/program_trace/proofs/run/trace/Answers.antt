use Rattle.std.proofs.Common.{List, ◌++◌, ap, ◌∙◌, arith}
use Rattle.cpu_regs.specs.declared.regs.Regs.{Regs}
use Rattle.program_trace.specs.Lone.{TracedUser}
use Rattle.program_trace.specs.Traces.{TracedStep, steps_from}
use Rattle.program_trace.proofs.States.{gone_own, is_traced}
use Rattle.program_trace.proofs.run.trace.Goals as goal

pub end_of-requires : goal.end_of-requires
end_of-requires c =
    omega (arith, ap (λ (a : TracedUser). a.user.own) c.in_ok-alone.ensures.gone, gone_own c.args.most c.in_ok-begun.begun, c.in_ok-begun.ensures.early, c.ranges.most.fits)

pub returns : goal.returns
returns c =
    is_traced c.args.most c.args.deck.now c.args.lines.now c.in_ok-begun.begun c.in_ok-alone.alone c.go.new.steps c.regs-place.result.ic c.in_ok-end.end c.in_ok-begun.ensures.value
    (c.in_ok-alone.ensures.steps ∙ ap (λ (ss : List TracedStep). ss ++ steps_from c.args.most c.in_ok-begun.begun) c.new-steps.ensures) c.in_ok-alone.ensures.gone
    (ap (λ (r : Regs). r.ic) c.regs-place.ensures) c.in_ok-end.ensures
