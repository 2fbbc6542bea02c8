-- claim: what a run hands out when it has ended: its record with all files, or what it was when drum or disk failed.
use Rattle.std.specs.Prelude.{◌≡◌, Ok, Err}
use Rattle.std.specs.declared.result.Result.{Result}
use Rattle.ctss_types.specs.declared.fault.RunFault.{RunFault}
use Rattle.ctss_types.specs.declared.fault.RunFault.TheVariants.{Drum, Disk}
use Rattle.ctss_types.specs.declared.history.Record.{Record}
use Rattle.plan_model.specs.Loads.{no_places}
use Rattle.user_cores.specs.Backing.{BackState}
use Rattle.supervisor.specs.Seen.{Bare, run_with, record_so_far}
use Rattle.supervisor.specs.Closes.{EndsComplete, EndsWithoutFiles}
use Rattle.live_run.specs.declared.ending.Played.{Played}
use Rattle.live_run.specs.declared.ending.Played.TheVariants.{Done, DrumFailed, DiskFailed}

-- it came to its end, and its files were read
pub record IsFinished (ended : Result Unit RunFault) (b : Bare) (old : BackState) (rec : Record) : Type 0 where
  pub nothing : Unit
  pub ended_is : ended ≡ Ok nothing
  pub ends : EndsComplete b old.held rec

-- this failed, and the record is that of the steps so far
pub record IsCutShort (fault : RunFault) (ended : Result Unit RunFault) (b : Bare) (old new : BackState) (rec : Record) : Type 0 where
  pub ended_is : ended ≡ Err fault
  pub shown : rec ≡ record_so_far (run_with no_places b)
  pub same : new ≡ old

-- it came to its end, and then the disk failed
pub record LacksItsFiles (ended : Result Unit RunFault) (b : Bare) (old new : BackState) (rec : Record) : Type 0 where
  pub nothing : Unit
  pub ended_is : ended ≡ Ok nothing
  pub ends : EndsWithoutFiles b old.disk_faults new.disk_faults rec

pub data DiskFails (ended : Result Unit RunFault) (b : Bare) (old new : BackState) (rec : Record) : Type 0 where
  OnTheWay : IsCutShort Disk ended b old new rec → DiskFails ended b old new rec
  BehindTheEnd : LacksItsFiles ended b old new rec → DiskFails ended b old new rec

abbrev pub Finishes : Result Unit RunFault → Bare → (old new : BackState) → Played → Type 0
Finishes ended b old new (Done rec) = IsFinished ended b old rec
Finishes ended b old new (DrumFailed rec) = IsCutShort Drum ended b old new rec
Finishes ended b old new (DiskFailed rec) = DiskFails ended b old new rec

abbrev pub IfDone : Played → (Record → Type 0) → Type 0
IfDone (Done rec) P = P rec
IfDone (DrumFailed rec) P = Unit {0}
IfDone (DiskFailed rec) P = Unit {0}
