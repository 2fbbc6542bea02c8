-- claim: the sums of two users' schedule.
use Rattle.std.specs.Prelude.{◌≡◌, List, [], ◌∷◌}
use Rattle.ctss_types.specs.declared.history.Cause.TheVariants as cause
use Rattle.ctss_types.specs.declared.history.EventKind.TheVariants as kind
use Rattle.ctss_types.specs.declared.history.Entry.{Entry}
use Rattle.ctss_types.specs.declared.history.Entry.TheVariants.{Taken, Idle, Swap, Serve, Clock}
use Rattle.time_sharing.specs.Sums.{swaps_in, dumped_in, read_in, serves_in, steps_in}

-- one waits for a line, and is swapped out and in again
abbrev pub two_users : List Entry
two_users =
    Taken 200 2 kind.Line 2 0 ∷ Clock 200 2 ∷ Serve 200 2 1 1 cause.Size ∷ Swap 201 2 1 0 1 ∷ Serve 211 2 0 3 cause.Wait ∷ Idle 214 400
    ∷ Taken 400 1 kind.Line 1 3 ∷ Swap 400 1 2 3 4 ∷ Serve 420 1 0 5 cause.Stop ∷ []

pub record RowOfSums : Type 0 where
  pub swaps : swaps_in two_users ≡ 2
  pub dumped : dumped_in two_users ≡ 3
  pub read : read_in two_users ≡ 3
  pub serves : serves_in two_users ≡ 3
  pub steps : steps_in two_users ≡ 8
