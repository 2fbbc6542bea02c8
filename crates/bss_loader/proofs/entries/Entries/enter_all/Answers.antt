use Rattle.std.proofs.Common.{rules, arith, ◌+◌}
use Rattle.bss_loader.proofs.Names.{module_found, module_first, module_all, places_left}
use Rattle.bss_loader.proofs.entries.Entries.enter_all.Goals as goal

pub returns-in-Some-clause-first : goal.returns-in-Some-clause-first
returns-in-Some-clause-first c =
    module_found c.loop-module.base c.args.modules.now c.loop-module.module-index c.module-item.result c.loop-module.self c.in-Some.name _ c.loop-module-test.true c.module-item.is
    (search rules) c.loop-module.invariant.first

pub loop-module-preserved : goal.loop-module-preserved
loop-module-preserved c = record {
  room = omega (arith, c.loop-module.invariant.room, places_left c.args.modules.now c.loop-module.module-index c.module-item.result c.loop-module-test.true c.module-item.is, c.len.ensures);
  first = module_first c.loop-module.base (c.loop-module.base + c.len.result) c.args.modules.now c.loop-module.module-index c.module-item.result c.loop-module.self c.enter.new.self _
      c.loop-module-test.true c.module-item.is (search rules) (search rules) (search rules) c.loop-module.invariant.first;
  all = module_all c.loop-module.base (c.loop-module.base + c.len.result) c.args.modules.now c.loop-module.module-index c.module-item.result c.loop-module.self c.enter.new.self _
      c.loop-module-test.true c.module-item.is (search rules) (search rules) c.loop-module.invariant.all;
}
