use Rattle.fap_read.proofs.Blanks.{field_seen, at_most}
use Rattle.fap_read.proofs.columns.field.Goals as goal

pub returns-clause-value : goal.returns-clause-value
returns-clause-value c =
    field_seen c.args.text.now c.behind.result.now c.front.result.now c.until_blank.result.now c.behind.ensures c.front.ensures c.until_blank.ensures.value

pub returns-clause-most : goal.returns-clause-most
returns-clause-most c = at_most _ _ c.front.result.now c.behind.result.now c.front.ensures c.until_blank.ensures.within
