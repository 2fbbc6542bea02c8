use Rattle.std.proofs.Common.{rules}
use Rattle.level_queues.proofs.Rising.{rows_later, front_of}
use Rattle.level_queues.proofs.row.«+earliest_in».Goals as goal

pub returns-in-len1-up-clause-later : goal.returns-in-len1-up-clause-later
returns-in-len1-up-clause-later t c =
    rows_later c.args.age c.earliest.result c.earliest_in.result c.args.besides.now _ _ c.args.rows.now (front_of c.args.rows.now c.row-item.result (search rules) c.row-item.is) c.earliest.ensures.later c.earliest_in.ensures.under c.earliest_in.ensures.later
