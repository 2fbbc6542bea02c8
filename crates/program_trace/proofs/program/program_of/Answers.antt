use Rattle.std.proofs.Common.{◌+◌, ap, ◌∙◌, arith}
use Rattle.fap_assemble.specs.Steps.{texts}
use Rattle.program_trace.specs.Programs.{lines_from, most_lines}
use Rattle.program_trace.proofs.Lines.{row_count, few_rows, program_is, no_program, few_with}
use Rattle.program_trace.proofs.program.program_of.Goals as goal

pub returns-in-Err-Faults-clause-value : goal.returns-in-Err-Faults-clause-value
returns-in-Err-Faults-clause-value c = no_program (texts c.args.cards.now) _ (rw c.in-Err-Faults.field-0-is at c.in-Err-Faults.ensures)

pub overflow_add-first : goal.overflow_add-first
overflow_add-first c = omega (arith, c.len.ensures, few_rows c.args.cards.now c.args.listed.now c.requires.listed, c.requires.few)

pub lines_of-requires : goal.lines_of-requires
lines_of-requires c = omega (arith, c.len.ensures, few_rows c.args.cards.now c.args.listed.now c.requires.listed, c.requires.few)

pub returns-clause-value : goal.returns-clause-value
returns-clause-value c =
    let many = c.len.ensures ∙ row_count c.args.cards.now c.args.listed.now c.requires.listed in
    c.program_with.ensures
    ∙ program_is (texts c.args.cards.now) c.in-Ok.deck.words c.len.result c.in_ok-told.told c.in-Ok.ensures many
    (c.in_ok-told.ensures ∙ ap (lines_from most_lines (c.len.result + 1)) c.cards_behind.ensures)

pub returns-clause-few : goal.returns-clause-few
returns-clause-few c =
    few_with c.in-Ok.deck.words (c.len.result + 1) (texts c.cards_behind.result.now) c.in_ok-told.told c.program_with.result c.program_with.ensures c.in_ok-told.ensures
