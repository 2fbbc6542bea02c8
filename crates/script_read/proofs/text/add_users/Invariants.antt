use Rattle.std.proofs.Common.{◌≡◌, ◌++◌, ◌+◌, ℕ, List, drop}
use Rattle.text_model.specs.Canonical.{user_cards}
use Rattle.text_writer.specs.Writing.{Adds}
use Rattle.script_read.proofs.text.add_users.Given as goal

-- the cards so far were added, and with those of the accounts that are left they are all
abbrev pub invariant-loop-index : goal.invariant-loop-index
invariant-loop-index g l =
    (done : List ℕ) × Adds g.K.Sink done l.fn.out l.out × (done ++ user_cards (l.index + 1) (drop l.index l.accounts) ≡ user_cards 1 l.accounts)
