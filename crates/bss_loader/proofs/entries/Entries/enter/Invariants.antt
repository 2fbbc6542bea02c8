use Rattle.std.proofs.Common.{◌≡◌, ◌++◌, drop}
use Rattle.link_model.specs.Links.{entered, repeated_in}
use Rattle.bss_loader.proofs.entries.Entries.enter.Given as goal

abbrev pub invariant-loop-entry : goal.invariant-loop-entry
invariant-loop-entry l = record {
  first : repeated_in l.self (entered l.base (drop l.entry-index l.entries)) ≡ repeated_in l.fn.self (entered l.base l.entries);
  all : l.self ++ entered l.base (drop l.entry-index l.entries) ≡ l.fn.self ++ entered l.base l.entries;
}
