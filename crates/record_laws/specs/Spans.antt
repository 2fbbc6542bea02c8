-- claim: what the entries of a record cover of its time, and how many ticks of each kind.
use Rattle.std.specs.Prelude.{◌≡◌, ℕ, ◌+◌, ◌-◌, ◌*◌, ◌≤◌, List, [], ◌∷◌}
use Rattle.ctss_types.specs.declared.history.Entry.{Entry}
use Rattle.ctss_types.specs.declared.history.Entry.TheVariants.{Idle, Swap, Serve}

-- from one tick to another
pub record Span : Type 0 where
  pub from : ℕ
  pub until : ℕ

-- A service covers the ticks that it ran, a load so many for each block that it moved, and idling what it says; no
-- other entry covers anything.
abbrev pub spans : (swap : ℕ) → List Entry → List Span
spans swap [] = []
spans swap (Serve tick user level ran cause ∷ es) = record { from = tick; until = tick + ran } ∷ spans swap es
spans swap (Swap tick user dumped read fresh ∷ es) =
    record { from = tick; until = tick + swap * (dumped + read) } ∷ spans swap es
spans swap (Idle from until ∷ es) = record { from = from; until = until } ∷ spans swap es
spans swap (_ ∷ es) = spans swap es

-- a span begins here, and doesn't end before it begins
pub record BeginsAt (now : ℕ) (x : Span) : Type 0 where
  pub here : x.from ≡ now
  pub forward : x.from ≤ x.until

-- end to end, from the first number to the last: each begins where the one before ends
abbrev pub JoinFrom : ℕ → List Span → ℕ → Type 0
JoinFrom now [] last = now ≡ last
JoinFrom now (x ∷ xs) last = BeginsAt now x × JoinFrom x.until xs last

-- the ticks of the services
abbrev pub served_in : List Entry → ℕ
served_in [] = 0
served_in (Serve tick user level ran cause ∷ es) = ran + served_in es
served_in (_ ∷ es) = served_in es

-- the ticks of the loads
abbrev pub swapping_in : (swap : ℕ) → List Entry → ℕ
swapping_in swap [] = 0
swapping_in swap (Swap tick user dumped read fresh ∷ es) = swap * (dumped + read) + swapping_in swap es
swapping_in swap (_ ∷ es) = swapping_in swap es

-- the ticks in which nobody had anything to do
abbrev pub idle_in : List Entry → ℕ
idle_in [] = 0
idle_in (Idle from until ∷ es) = (until - from) + idle_in es
idle_in (_ ∷ es) = idle_in es
