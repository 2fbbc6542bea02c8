use Rattle.std.proofs.Common.{◌≡◌, ◌++◌, ◌+◌, ℕ, List, drop}
use Rattle.text_writer.specs.Writing.{Adds}
use Rattle.ctss_tomorrow.proofs.KeptFiles.{text_from}
use Rattle.ctss_tomorrow.proofs.base.text.add_all_kept.Given as goal

-- the cards so far were added, and with those that are left they are all
abbrev pub invariant-loop-index : goal.invariant-loop-index
invariant-loop-index g l =
    (done : List ℕ) × Adds g.K.Sink done l.fn.out l.out
    × (done ++ text_from (l.index + 1) (drop l.index l.lists) ≡ text_from 1 l.lists)
