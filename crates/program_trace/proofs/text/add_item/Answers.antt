use Rattle.text_writer.proofs.Added.{◌⨾◌, adds_is}
use Rattle.program_trace.proofs.StepTexts.{read_is, written_is}
use Rattle.program_trace.proofs.text.add_item.Goals as goal

pub returns-in-In : goal.returns-in-In
returns-in-In g c =
    adds_is (read_is c.args.item.now c.in-In.line c.as_slice.result.now c.in-In.is c.as_slice.ensures.value)
    (c.add_gap.ensures ⨾ c.add.ensures ⨾ c.line.ensures)

pub returns-in-Out : goal.returns-in-Out
returns-in-Out g c =
    adds_is (written_is c.args.item.now c.in-Out.line c.as_slice-in-Out.result.now c.in-Out.is c.as_slice-in-Out.ensures.value)
    (c.add_gap-in-Out.ensures ⨾ c.add-in-Out.ensures ⨾ c.line-in-Out.ensures)
