-- claim: what contracts see of a run that is handed its events while it goes on, and what going to a limit does to that.
use Rattle.std.specs.Prelude.{◌≡◌, ℕ, ◌≤◌, Bool, List, ◌++◌, Option, Some, None, Ok, Err}
use Rattle.std.specs.declared.result.Result.{Result}
use Rattle.std.specs.List.{AllZip}
use Rattle.std.specs.Option.{is_some}
use Rattle.faults.specs.Faults.{Rose}
use Rattle.ctss_types.specs.declared.script.Timed.{Timed}
use Rattle.ctss_types.specs.declared.fault.RunFault.{RunFault}
use Rattle.ctss_types.specs.declared.fault.RunFault.TheVariants.{Drum, Disk, NoMemory}

-- a call that changes a core: an event that it took, or a limit that it went to, with the fault that it met there
pub data CoreCall : Type 0 where
  Took : (event : Timed) → CoreCall
  Went : (limit : ℕ) → (fault : Option RunFault) → CoreCall

-- all that contracts see of a core: whether a fault has ended it, what the consoles have shown, the first of them console 1, and
-- how often its drum and its disk have failed
pub record CoreSeen : Type 0 where
  pub is_ended : Bool
  pub texts : List (List ℕ)
  pub drum_faults : ℕ
  pub disk_faults : ℕ

abbrev pub fault_of : Result Unit RunFault → Option RunFault
fault_of (Ok x) = None
fault_of (Err fault) = Some fault

-- a text with more at its end
abbrev pub Grows : List ℕ → List ℕ → Type 0
Grows old new = (more : List ℕ) × (new ≡ old ++ more)

-- a fault of the drum or the disk comes only where the count of its faults rose
abbrev pub Blames : Option RunFault → CoreSeen → CoreSeen → Type 0
Blames None old new = Unit {0}
Blames (Some Drum) old new = Rose old.drum_faults new.drum_faults
Blames (Some Disk) old new = Rose old.disk_faults new.disk_faults
Blames (Some NoMemory) old new = Unit {0}

-- a core before and behind its going to a limit: a fault ends it, and nothing that a console has shown is taken back
pub record WentTo (fault : Option RunFault) (old new : CoreSeen) : Type 0 where
  pub ended : new.is_ended ≡ is_some fault
  pub texts : AllZip Grows old.texts new.texts
  pub drum : old.drum_faults ≤ new.drum_faults
  pub disk : old.disk_faults ≤ new.disk_faults
  pub cause : Blames fault old new
