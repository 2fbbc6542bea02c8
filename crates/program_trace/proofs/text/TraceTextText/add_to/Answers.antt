use Rattle.std.proofs.Common.{ap}
use Rattle.text_writer.proofs.Added.{◌⨾◌, adds_is}
use Rattle.program_trace.specs.Texts.{steps_text, trace_text}
use Rattle.program_trace.proofs.text.TraceTextText.add_to.Goals as goal

pub returns : goal.returns
unfolding trace_text
returns g c =
    c.line.ensures ⨾ adds_is (ap (steps_text c.args.self.now.symbols.now 1) c.as_slice.ensures) c.add_steps.ensures ⨾ c.end_line.ensures ⨾ c.add_end.ensures
