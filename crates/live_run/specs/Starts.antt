-- claim: the start of a run: the accounts and files of a script, before any event, where no user has a word or a block yet.
use Rattle.std.specs.Prelude.{◌≡◌, ℕ, ◌-◌, ◌≤◌, Bool, true, false, List, [], ◌∷◌, length, map, replicate, get_or, None, OnOk, IsErrOf}
use Rattle.std.specs.declared.result.Result.{Result}
use Rattle.faults.specs.Faults.{Rose}
use Rattle.ctss_types.specs.declared.fault.StepFault.{StepFault}
use Rattle.ctss_types.specs.declared.fault.StepFault.TheVariants.{Disk}
use Rattle.core_bank.specs.Bank.{AreWords}
use Rattle.drum_slots.specs.Slots.{slot_of}
use Rattle.drum_slots.specs.Table.{slots_of, records_of}
use Rattle.ctss_types.specs.declared.script.Script.{Script}
use Rattle.ctss_types.specs.declared.script.Account.{Account}
use Rattle.ctss_types.specs.declared.file.OwnedFile.{OwnedFile}
use Rattle.file_model.specs.Owned.{files_of}
use Rattle.file_map.specs.Known.{known}
use Rattle.user_model.specs.Session.{no_account}
use Rattle.track_directories.specs.Directories.{DirectoriesState}
use Rattle.track_directories.specs.Firsts.{Empty}
use Rattle.plan_model.specs.Loads.{no_places}
use Rattle.system_model.specs.Record.{start_of}
use Rattle.supervisor.specs.Seen.{run_with, record_so_far}
use Rattle.supervisor.specs.Whole.{Whole, run_apart}
use Rattle.live_run.specs.Calls.{run_over, IsReady}
use Rattle.live_run.specs.Media.{MediaSeen}
use Rattle.live_run.specs.declared.start.NewRun.{NewRun}

-- the directories of these accounts hold their first files, as far as the disk tells them, and there is no common file, for so many
-- tracks
pub record HasFirstFiles (quota : ℕ) (accounts : List Account) (files : List OwnedFile) (told : Bool) (s : DirectoriesState) : Type 0 where
  pub own : (u : ℕ) → 1 ≤ u → u ≤ length accounts → s.own u ≡ known told (files_of u files)
  pub may : (u : ℕ) → 1 ≤ u → u ≤ length accounts → s.may u ≡ (get_or accounts (u - 1) no_account).tracks
  pub common : s.common ≡ []
  pub common_may : s.common_may ≡ quota
  pub count : s.count ≡ length accounts
  pub tells : s.tells ≡ told

-- directories without files, of this script's accounts and for its common files
pub record AreFor (script : Script) (e : Empty) : Type 0 where
  pub tracks : e.tracks ≡ script.params.disk
  pub quotas : e.quotas ≡ script.params.common ∷ map (λ (a : Account). a.tracks) script.accounts

-- what a run of this script's accounts needs of memory: a supervisor at its start, no block of anybody on the drum or in core, and no file
pub record IsNew (script : Script) (r : NewRun) : Type 0 where
  pub run : run_with no_places r.supervisor ≡ start_of (record script { events = []; files = [] })
  pub texts : r.supervisor.texts ≡ replicate 32 []
  pub begun : r.supervisor.ended ≡ false
  pub none : (k : ℕ) → slot_of (slots_of r.slots) k ≡ None
  pub records : records_of r.slots ≡ script.params.drum
  pub quotas : r.slots.quotas.items ≡ 0 ∷ map (λ (a : Account). a.blocks) script.accounts
  pub words : AreWords r.bank
  pub sizes : r.sizes.items ≡ replicate (length r.slots.quotas.items) 0
  pub directories : AreFor script r.files

-- The run is that of the script without events, where drum and disk tell their records, and no console has shown anything.
pub record Begins (script : Script) (told : Bool) (s : Whole) : Type 0 where
  pub run : told ≡ true → run_over s ≡ start_of (record script { events = [] })
  pub entries : s.bare.entries ≡ []
  pub texts : s.bare.texts ≡ replicate 32 []
  pub begun : s.bare.ended ≡ false
  pub tells : s.back.held.tells ≡ told
  pub ready : IsReady s

-- A run begins if the first files could be written on the disk; else the disk failed or memory lacked. The drum was not called. What it
-- shows is the start in any case.
pub record IsBegun (script : Script) (m : MediaSeen) (wrote : Result Unit StepFault) (s : Whole) : Type 0 where
  pub begins : OnOk wrote (Begins script m.tells s)
  pub shown : record_so_far (run_apart s) ≡ record_so_far (start_of script)
  pub calls : s.back.calls ≡ m.drum_calls
  pub drum : s.back.faults ≡ m.drum_faults
  pub disk : m.disk_faults ≤ s.back.disk_faults
  pub entries : s.bare.entries ≡ []
  pub cause : IsErrOf wrote Disk → Rose m.disk_faults s.back.disk_faults
