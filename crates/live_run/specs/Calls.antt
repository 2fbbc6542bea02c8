-- claim: the run of a supervisor and what lies behind its users' sessions, behind events that it took and limits that it went to.
use Rattle.std.specs.Prelude.{◌≡◌, ◌≤◌, List, [], ◌∷◌, length, Option, Some, None, Ok, Err}
use Rattle.std.specs.declared.result.Result.{Result}
use Rattle.ctss_types.specs.declared.fault.RunFault.{RunFault}
use Rattle.ctss_types.specs.declared.script.Timed.{Timed}
use Rattle.live_core.specs.Core.{CoreSeen, CoreCall, Took, Went}
use Rattle.plan_model.specs.Loads.{Places}
use Rattle.system_model.specs.Run.{Run, with_one_event}
use Rattle.system_model.specs.Joined.{joined}
use Rattle.supervisor.specs.Seen.{run_with}
use Rattle.supervisor.specs.Whole.{Whole, Agrees, Advances, run_of}

-- an event was put behind those that are left, and all else stays
pub record Takes (e : Timed) (old new : Whole) : Type 0 where
  pub run : (places : Places) → run_with places new.bare ≡ with_one_event e (run_with places old.bare)
  pub texts : new.bare.texts ≡ old.bare.texts
  pub ended : new.bare.ended ≡ old.bare.ended
  pub back : new.back ≡ old.back

abbrev pub result_of : Option RunFault → Result Unit RunFault
result_of None = Ok tt
result_of (Some fault) = Err fault

abbrev pub Makes : CoreCall → Whole → Whole → Type 0
Makes (Took e) old new = Takes e old new
Makes (Went limit fault) old new = Advances limit (result_of fault) old new

-- the run after these calls, one after another
abbrev pub Follows : List CoreCall → Whole → Whole → Type 0
Follows [] old new = new ≡ old
Follows (call ∷ calls) old new = (mid : Whole) × Makes call old mid × Follows calls mid new

-- the run with its users' words and files
abbrev pub run_over : Whole → Run
run_over s = joined s.back.held.stores (run_of s)

-- what is seen of it
abbrev pub seen_of : Whole → CoreSeen
seen_of s = record { is_ended = s.bare.ended; texts = s.bare.texts; drum_faults = s.back.faults; disk_faults = s.back.disk_faults }

-- users and what lies behind them agree, and there are 32 consoles
pub record IsReady (s : Whole) : Type 0 where
  pub agrees : Agrees s
  pub seats : 32 ≤ length s.bare.consoles
