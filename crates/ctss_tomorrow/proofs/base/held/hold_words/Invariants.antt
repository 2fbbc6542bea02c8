use Rattle.std.proofs.Common.{take}
use Rattle.std.specs.List.{All}
use Rattle.ctss_tomorrow.specs.Files.{HaveWords}
use Rattle.ctss_tomorrow.proofs.base.held.hold_words.Given as goal

abbrev pub invariant-loop-files : goal.invariant-loop-files
invariant-loop-files l = All HaveWords (take l.files-index l.lists)
