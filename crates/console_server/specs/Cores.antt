-- claim: a core that can go on, and one that has gone on to a turn's limit.
use Rattle.std.specs.Prelude.{◌≡◌, false, None}
use Rattle.live_core.specs.Core.{CoreSeen, WentTo}

-- no fault has ended it, and it has what it needs
pub record CanGoOn {C : Type 0} (see : C → CoreSeen) (holds : C → Type 0) (core : C) : Type 0 where
  pub ready : (see core).is_ended ≡ false
  pub sound : holds core

-- it went to a limit and met no fault there, and can go on
pub record HasGoneOn {C : Type 0} (see : C → CoreSeen) (holds : C → Type 0) (old new : C) : Type 0 where
  pub went : WentTo None (see old) (see new)
  pub ready : CanGoOn see holds new
