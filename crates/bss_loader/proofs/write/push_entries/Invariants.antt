use Rattle.std.proofs.Common.{◌≡◌, ◌++◌, drop}
use Rattle.link_model.specs.Modules.{entry_words}
use Rattle.bss_loader.proofs.write.push_entries.Given as goal

abbrev pub invariant-loop-entry : goal.invariant-loop-entry
invariant-loop-entry l = l.words ++ entry_words (drop l.entry-index l.entries) ≡ l.fn.words ++ entry_words l.entries
