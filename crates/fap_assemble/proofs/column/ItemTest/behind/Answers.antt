use Rattle.std.proofs.Common.{rules}
use Rattle.fap_assemble.specs.Columns.{passes}
use Rattle.fap_assemble.specs.Names.{names_in}
use Rattle.fap_assemble.proofs.Columns.{behind_goes}
use Rattle.fap_assemble.proofs.column.ItemTest.behind.Goals as goal

pub returns-then-passes-clause-goes : goal.returns-then-passes-clause-goes
returns-then-passes-clause-goes c = λ column.
    behind_goes (passes c.args.self (names_in c.args.names)) c.args.index column c.args.items.now c.first_item.result.0.now c.in_ok-rest.rest.now
    (search rules) (search rules) (search rules)
