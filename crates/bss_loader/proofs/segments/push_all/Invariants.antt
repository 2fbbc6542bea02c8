use Rattle.std.proofs.Common.{◌≡◌, ◌++◌, take}
use Rattle.bss_loader.proofs.segments.push_all.Given as goal

abbrev pub invariant-loop-word : goal.invariant-loop-word
invariant-loop-word l = l.list ≡ l.fn.list ++ take l.word-index l.words
