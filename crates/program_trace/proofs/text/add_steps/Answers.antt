use Rattle.std.proofs.Common.{◌+◌, ◌++◌, [], drop, refl, arith}
use Rattle.fap_listing.proofs.Rows.{one_more, none_left}
use Rattle.text_writer.proofs.Added.{◌⨾◌, adds_is, adds_none}
use Rattle.program_trace.specs.Texts.{step_text, steps_text}
use Rattle.program_trace.proofs.StepTexts.{steps_next, steps_none}
use Rattle.program_trace.proofs.text.add_steps.Goals as goal

pub loop-step-init : goal.loop-step-init
loop-step-init g c = ([], adds_none g.K.Sink c.args.out.now, refl, omega arith)

pub loop-step-preserved : goal.loop-step-preserved
loop-step-preserved g c =
    let l = c.loop-step in
    let symbols = c.args.symbols.now in
    let steps = c.args.steps.now in
    let text = step_text symbols l.number c.step-item.result in (
      l.invariant.0 ++ text,
      l.invariant.1 ⨾ c.add_step.ensures,
      one_more l.invariant.0 text (steps_text symbols (l.number + 1) (drop (l.step-index + 1) steps)) (steps_text symbols l.number (drop l.step-index steps)) (steps_text symbols 1 steps)
          (steps_next symbols l.number l.step-index c.step-item.result steps c.loop-step-test.true c.step-item.is) l.invariant.2,
      omega (arith, l.invariant.3),
    )

pub returns : goal.returns
returns g c =
    let l = c.loop-step in
    let left = steps_text c.args.symbols.now l.number (drop l.step-index c.args.steps.now) in
    adds_is
    (none_left l.invariant.0 left (steps_text c.args.symbols.now 1 c.args.steps.now)
    (steps_none c.args.symbols.now l.number l.step-index c.args.steps.now c.loop-step-test.false) l.invariant.2)
    l.invariant.1
