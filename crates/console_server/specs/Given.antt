-- proof: events given to a core, and the list of the events given.
use Rattle.std.specs.Prelude.{◌≡◌, ℕ, List, ◌++◌, take, map}
use Rattle.ctss_types.specs.declared.script.Timed.{Timed}
use Rattle.live_core.specs.Core.{CoreSeen, CoreCall, Took}
use Rattle.console_server.specs.Cores.{CanGoOn}

-- A core that was given these events, and the list of events given.
pub record IsGiven {C : Type 0} (goes : C → List CoreCall → C → Type 0) (events : List Timed) (old new : C) (had has : List Timed) : Type 0 where
  pub core : goes old (map Took events) new
  pub noted : has ≡ had ++ events

-- a beginning of these events was given
abbrev pub IsGivenPart : {C : Type 0} → (C → List CoreCall → C → Type 0) → List Timed → C → C → (had has : List Timed) → Type 0
IsGivenPart goes events old new had has = (count : ℕ) × IsGiven goes (take count events) old new had has

-- contracts see the same of a core that was given events, and it can go on
pub record StaysReady {C : Type 0} (see : C → CoreSeen) (holds : C → Type 0) (old new : C) : Type 0 where
  pub same : see new ≡ see old
  pub ready : CanGoOn see holds new
