use Rattle.std.proofs.Common.{◌≡◌, ◌+◌, ◌≤◌, ◌++◌, drop}
use Rattle.link_model.specs.Links.{places_of_all, entered_from, repeated_in}
use Rattle.bss_loader.proofs.entries.Entries.enter_all.Given as goal

abbrev pub invariant-loop-module : goal.invariant-loop-module
invariant-loop-module l = record {
  room : l.base + places_of_all (drop l.module-index l.modules) ≤ 32768;
  first : repeated_in l.self (entered_from l.base (drop l.module-index l.modules)) ≡ repeated_in l.fn.self (entered_from 0 l.modules);
  all : l.self ++ entered_from l.base (drop l.module-index l.modules) ≡ l.fn.self ++ entered_from 0 l.modules;
}
