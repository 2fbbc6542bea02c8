use Rattle.std.proofs.Common.{◌≡◌, drop}
use Rattle.link_model.specs.Links.{missing_in}
use Rattle.bss_loader.proofs.entries.Entries.missing_of.Given as goal

abbrev pub invariant-loop-name : goal.invariant-loop-name
invariant-loop-name l = missing_in l.self (drop l.name-index l.names) ≡ missing_in l.self l.names
