use Rattle.std.proofs.Common.{◌≡◌, ◌+◌, ◌≤◌, drop}
use Rattle.link_model.specs.Links.{linked_from, places_of_all}
use Rattle.bss_loader.specs.Runs.{words_in}
use Rattle.bss_loader.proofs.linked.add_modules.Given as goal

abbrev pub invariant-loop-module : goal.invariant-loop-module
invariant-loop-module l = record {
  room : l.base + places_of_all (drop l.module-index l.modules) ≤ 32768;
  words :
      words_in l.segments l.base (linked_from l.base l.entries (drop l.module-index l.modules))
      ≡ words_in l.fn.segments 0 (linked_from 0 l.entries l.modules);
}
