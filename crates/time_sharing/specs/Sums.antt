-- claim: sums over the entries of a schedule.
use Rattle.std.specs.Prelude.{ℕ, suc, ◌+◌, ◌-◌, List, [], ◌∷◌}
use Rattle.ctss_types.specs.declared.history.Cause.{Cause}
use Rattle.ctss_types.specs.declared.history.Cause.TheVariants as cause
use Rattle.ctss_types.specs.declared.history.Entry.{Entry}
use Rattle.ctss_types.specs.declared.history.Entry.TheVariants.{Swap, Serve}

-- how many loads there were
abbrev pub swaps_in : List Entry → ℕ
swaps_in [] = 0
swaps_in (Swap tick user dumped read fresh ∷ es) = suc (swaps_in es)
swaps_in (_ ∷ es) = swaps_in es

-- how many blocks went to the drum
abbrev pub dumped_in : List Entry → ℕ
dumped_in [] = 0
dumped_in (Swap tick user dumped read fresh ∷ es) = dumped + dumped_in es
dumped_in (_ ∷ es) = dumped_in es

-- how many came from it
abbrev pub read_in : List Entry → ℕ
read_in [] = 0
read_in (Swap tick user dumped read fresh ∷ es) = read + read_in es
read_in (_ ∷ es) = read_in es

-- how many services there were
abbrev pub serves_in : List Entry → ℕ
serves_in [] = 0
serves_in (Serve tick user level ran cause ∷ es) = suc (serves_in es)
serves_in (_ ∷ es) = serves_in es

-- the steps of a service of so many ticks: a read that found no line took a tick and was no step
abbrev pub service_steps : ℕ → Cause → ℕ
service_steps ran cause.Wait = ran - 1
service_steps ran _ = ran

-- the steps of all users
abbrev pub steps_in : List Entry → ℕ
steps_in [] = 0
steps_in (Serve tick user level ran cause ∷ es) = service_steps ran cause + steps_in es
steps_in (_ ∷ es) = steps_in es
