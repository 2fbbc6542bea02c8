-- claim: how the run of a script ends.
use Rattle.std.specs.Prelude.{◌≡◌, ◌<◌, ◌≤◌, true, false, List, [], Option, replicate, Err}
use Rattle.std.specs.declared.result.Result.{Result}
use Rattle.faults.specs.Faults.{Rose, WhereTold}
use Rattle.ctss_types.specs.declared.fault.RunFault.{RunFault}
use Rattle.ctss_types.specs.declared.fault.RunFault.TheVariants.{Disk, NoMemory}
use Rattle.ctss_types.specs.declared.script.Script.{Script}
use Rattle.ctss_types.specs.declared.history.Record.{Record}
use Rattle.time_sharing.specs.System.{Entry}
use Rattle.system_model.specs.Run.{Run, AfterSteps}
use Rattle.system_model.specs.Record.{start_of, record_of}
use Rattle.supervisor.specs.Seen.{record_so_far, without_files}
use Rattle.medium.specs.Medium.{CallList}
use Rattle.supervisor.specs.Counts.{IsCounted, IsCountedToLoad, calls_to_load}
use Rattle.supervisor.specs.Steps.{LoadIsNext}
use Rattle.supervisor.specs.Whole.{Whole, Advances, run_apart}
use Rattle.file_tracks.specs.Lying.{LieOn}
use Rattle.live_run.specs.Calls.{run_over}
use Rattle.live_run.specs.Media.{MediaSeen}
use Rattle.live_run.specs.Beginnings.{IsBeginning}
use Rattle.live_serve.specs.Live.{HasNoFiles}
use Rattle.live_run.specs.declared.ending.Played.{Played}
use Rattle.live_run.specs.declared.ending.Played.TheVariants.{Done, DrumFailed, DiskFailed}

-- A record of some whole steps, short of the script's end, behind which blocks of a user are to be brought into core. The drum's
-- calls are those of the loads so far and, where it tells them, a beginning of that next load's, of which the last one failed.
pub record IsStopped (script : Script) (rec : Record) (was now : Option CallList) : Type 0 where
  pub at : Run
  pub part : AfterSteps script.end (start_of script) at
  pub early : at.system.clock < script.end
  pub load : LoadIsNext at
  pub shown : rec ≡ record_so_far at
  pub counted : IsCountedToLoad [] rec.entries was now (calls_to_load load.due.user at)

-- The script's end was reached. This is its one record, where drum and disk tell their records; the drum was called just as the loads
-- say; and each file lies on tracks of its own, where the disk tells.
pub record IsDone (script : Script) (was now : MediaSeen) (rec : Record) : Type 0 where
  pub record_is : was.tells ≡ true → rec ≡ record_of script
  pub counted : IsCounted [] rec.entries was.drum_calls now.drum_calls
  pub lie : WhereTold now.disk_contents (λ contents. LieOn contents rec.files rec.common)

-- The drum failed. Where drum and disk tell their records, the record is that of the steps so far, and a load was cut off.
pub record IsCut (script : Script) (was now : MediaSeen) (rec : Record) : Type 0 where
  pub stopped : was.tells ≡ true → IsStopped script rec was.drum_calls now.drum_calls
  pub bare : HasNoFiles rec
  pub cause : Rose was.drum_faults now.drum_faults

-- a record of some whole steps of a script
pub record IsPart (script : Script) (rec : Record) : Type 0 where
  pub at : Run
  pub part : AfterSteps script.end (start_of script) at
  pub shown : rec ≡ record_so_far at

-- When the disk failed: while first files were written, so that no step was done; in the run; or behind it, when the files were read. And
-- what the record is then, where drum and disk tell their records.
pub data LacksFiles (script : Script) (was now : MediaSeen) (rec : Record) : Type 0 where
  AtStart : now.drum_calls ≡ was.drum_calls → rec ≡ record_so_far (start_of script) → LacksFiles script was now rec
  InRun : (was.tells ≡ true → IsPart script rec) → LacksFiles script was now rec
  AtEnd : (was.tells ≡ true → rec ≡ without_files (record_of script)) → LacksFiles script was now rec

-- The disk failed. The drum was called just as the record's loads say.
pub record IsLost (script : Script) (was now : MediaSeen) (rec : Record) : Type 0 where
  pub lacks : LacksFiles script was now rec
  pub counted : IsCounted [] rec.entries was.drum_calls now.drum_calls
  pub bare : HasNoFiles rec
  pub cause : Rose was.disk_faults now.disk_faults

abbrev pub IsPlayed : Script → (was now : MediaSeen) → Played → Type 0
IsPlayed script was now (Done rec) = IsDone script was now rec
IsPlayed script was now (DrumFailed rec) = IsCut script was now rec
IsPlayed script was now (DiskFailed rec) = IsLost script was now rec

-- Memory lacked, so that there is no record. The drum was called as the loads of these entries say, a beginning of the script's schedule
-- where drum and disk tell their records; or, if the drum had failed before, as it was then.
pub data HasSpent (script : Script) (was now : MediaSeen) : Type 0 where
  InSteps : (entries : List Entry) → IsCounted [] entries was.drum_calls now.drum_calls → (was.tells ≡ true → IsBeginning entries (record_of script).entries) → HasSpent script was now
  AtLoad : (was.tells ≡ true → (rec : Record) × IsStopped script rec was.drum_calls now.drum_calls) → HasSpent script was now

-- The run from a script's start to its end: its consoles had shown nothing, and this is what drum and disk had told of themselves.
pub record HasGone (script : Script) (m : MediaSeen) (result : Result Unit RunFault) (s : Whole) : Type 0 where
  pub start : Whole
  pub begun : m.tells ≡ true → run_over start ≡ start_of script
  pub entries : start.bare.entries ≡ []
  pub texts : start.bare.texts ≡ replicate 32 []
  pub unended : start.bare.ended ≡ false
  pub tells : start.back.held.tells ≡ m.tells
  pub calls : start.back.calls ≡ m.drum_calls
  pub drum : start.back.faults ≡ m.drum_faults
  pub disk : m.disk_faults ≤ start.back.disk_faults
  pub ran : Advances script.end result start s

-- the run never began: the disk failed while first files were written
pub record NeverGoes (script : Script) (m : MediaSeen) (result : Result Unit RunFault) (s : Whole) : Type 0 where
  pub ended : result ≡ Err Disk
  pub shown : record_so_far (run_apart s) ≡ record_so_far (start_of script)
  pub calls : s.back.calls ≡ m.drum_calls
  pub cause : Rose m.disk_faults s.back.disk_faults

-- it never began: memory lacked before its first step
pub record NeverGiven (m : MediaSeen) (result : Result Unit RunFault) (s : Whole) : Type 0 where
  pub ended : result ≡ Err NoMemory
  pub entries : s.bare.entries ≡ []
  pub calls : s.back.calls ≡ m.drum_calls

pub data IsScriptRun (script : Script) (m : MediaSeen) (result : Result Unit RunFault) (s : Whole) : Type 0 where
  Ran : HasGone script m result s → IsScriptRun script m result s
  NeverRan : NeverGoes script m result s → IsScriptRun script m result s
  NotGiven : NeverGiven m result s → IsScriptRun script m result s
