use Rattle.std.proofs.Common.{◌≡◌, drop}
use Rattle.link_model.specs.Links.{missing_in, externs_of_all}
use Rattle.bss_loader.proofs.entries.Entries.missing.Given as goal

abbrev pub invariant-loop-module : goal.invariant-loop-module
invariant-loop-module l = missing_in l.self (externs_of_all (drop l.module-index l.modules)) ≡ missing_in l.self (externs_of_all l.modules)
