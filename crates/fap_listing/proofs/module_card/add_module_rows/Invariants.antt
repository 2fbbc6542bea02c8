use Rattle.std.proofs.Common.{◌≡◌, ◌+◌, ◌++◌, ℕ, List, drop}
use Rattle.fap_assemble.specs.Steps.{texts}
use Rattle.fap_listing.specs.ModuleListing.{module_rows_text}
use Rattle.text_writer.specs.Writing.{Adds}
use Rattle.fap_listing.proofs.module_card.add_module_rows.Given as goal

-- the rows so far were added, and with those that are left they are all
abbrev pub invariant-loop-row : goal.invariant-loop-row
invariant-loop-row g l =
    (done : List ℕ) × Adds g.K.Sink done l.fn.out l.out
    × (done ++ module_rows_text l.number (drop l.row-index l.rows) (texts l.cards) ≡ module_rows_text 1 l.rows (texts l.fn.cards))
    × (l.number ≡ l.row-index + 1)
