use Rattle.text_writer.proofs.Added.{◌⨾◌, adds_is}
use Rattle.program_trace.proofs.Fields.{column_is}
use Rattle.program_trace.proofs.instruction.add_word_column.Goals as goal

pub returns-in-Some : goal.returns-in-Some
returns-in-Some g c =
    adds_is (column_is c.args.symbols.now c.args.word c.in-Some.word c.decode-instr.result c.split_for-split.result c.in-Some.is c.decode-instr.ensures.value c.split_for-split.ensures)
    (c.add_word.ensures ⨾ adds_is c.gap.ensures.value c.add_gap.ensures ⨾ c.add_gap-in-Some.ensures ⨾ c.add_decoded.ensures)
