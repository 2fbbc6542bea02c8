use Rattle.std.proofs.Common.{◌≡◌, ◌+◌, ◌≤◌, drop}
use Rattle.link_model.specs.Links.{places_of_all}
use Rattle.bss_loader.proofs.linked.places_of_all.Given as goal

abbrev pub invariant-loop-module : goal.invariant-loop-module
invariant-loop-module l = record {
  rest : l.places + places_of_all (drop l.module-index l.modules) ≡ places_of_all l.modules;
  within : l.places ≤ 32768;
}
