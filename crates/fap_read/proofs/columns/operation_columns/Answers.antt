use Rattle.fap_read.proofs.Blanks.{operation_seen}
use Rattle.fap_read.proofs.columns.operation_columns.Goals as goal

pub returns-clause-value : goal.returns-clause-value
returns-clause-value c =
    operation_seen c.args.text.now c.behind.result.now c.front.result.now c.until_blank.result.now c.behind.ensures c.front.ensures c.until_blank.ensures.value
