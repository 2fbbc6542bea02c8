use Rattle.std.proofs.Common.{rules}
use Rattle.bss_loader.proofs.Names.{externs_found, externs_next}
use Rattle.bss_loader.proofs.entries.Entries.missing.Goals as goal

pub returns-then-is_some : goal.returns-then-is_some
returns-then-is_some c =
    externs_found c.args.self.now c.args.modules.now c.loop-module.module-index c.module-item.result c.missing_of-missing.result _ c.loop-module-test.true c.module-item.is
    (search rules) (search rules) c.loop-module.invariant

pub loop-module-preserved : goal.loop-module-preserved
loop-module-preserved c =
    externs_next c.args.self.now c.args.modules.now c.loop-module.module-index c.module-item.result c.missing_of-missing.result _ c.loop-module-test.true c.module-item.is
    (search rules) (search rules) c.loop-module.invariant
