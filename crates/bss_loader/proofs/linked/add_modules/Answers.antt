use Rattle.std.proofs.Common.{rules, arith, ◌≡◌, List, ◌+◌, length, ap}
use Rattle.bss_loader.proofs.Names.{places_left}
use Rattle.bss_loader.proofs.Links.{module_added}
use Rattle.bss_loader.proofs.linked.add_modules.Goals as goal

pub loop-module-preserved : goal.loop-module-preserved
loop-module-preserved c =
    let size : length c.as_slice-places.result.now ≡ length c.module-item.result.places = ap (λ (l : List _). length l) c.as_slice-places.ensures in
    record {
      room = omega (arith, c.loop-module.invariant.room, places_left c.args.modules.now c.loop-module.module-index c.module-item.result c.loop-module-test.true c.module-item.is, size);
      words = module_added c.loop-module.base (c.loop-module.base + length c.as_slice-places.result.now) c.args.entries.now c.args.modules.now c.loop-module.module-index c.module-item.result
          c.loop-module.segments c.add_module.new.segments _ c.loop-module-test.true c.module-item.is (search rules) (search rules) c.loop-module.invariant.words;
    }
