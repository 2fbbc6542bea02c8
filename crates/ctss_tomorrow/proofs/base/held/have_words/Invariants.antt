use Rattle.std.proofs.Common.{take}
use Rattle.ctss_tomorrow.specs.Files.{HaveWords}
use Rattle.ctss_tomorrow.proofs.base.held.have_words.Given as goal

abbrev pub invariant-loop-file : goal.invariant-loop-file
invariant-loop-file l = HaveWords (take l.file-index l.files)
