-- proof: what comes of a run that is served, whatever lies behind its users' sessions.
use Rattle.std.specs.Prelude.{◌≡◌, ℕ, List, Ok, Err}
use Rattle.std.specs.declared.result.Result.{Result}
use Rattle.faults.specs.Faults.{WhereTold}
use Rattle.ctss_types.specs.declared.fault.RunFault.{RunFault}
use Rattle.ctss_types.specs.declared.file.FileBody.{FileBody}
use Rattle.ctss_types.specs.declared.script.Script.{Script}
use Rattle.ctss_types.specs.declared.script.Timed.{Timed}
use Rattle.file_tracks.specs.Lying.{LieOn}
use Rattle.user_cores.specs.Backing.{BackState}
use Rattle.supervisor.specs.Seen.{Bare}
use Rattle.live_run.specs.Media.{MediaSeen}
use Rattle.live_run.specs.Finishes.{Finishes, IfDone}
use Rattle.live_run.specs.declared.ending.Played.{Played}
use Rattle.live_run.specs.declared.ending.Played.TheVariants as played
use Rattle.console_link.specs.Links.{LinkSeen}
use Rattle.console_server.specs.declared.fault.ServeFault.{ServeFault}
use Rattle.live_serve.specs.declared.ending.Served.{Served}
use Rattle.live_serve.specs.declared.ending.Served.TheVariants.{Done, DrumFailed, DiskFailed}
use Rattle.live_serve.specs.declared.fault.ServingFault.{ServingFault}
use Rattle.live_serve.specs.Live.{IsServed, HasSpent, RunEnds}

-- drum and disk as they are seen after a run
pub record IsBehind (Lies : List (List FileBody) → List FileBody → Type 0) (back : BackState) (now : MediaSeen) : Type 0 where
  pub calls : back.calls ≡ now.drum_calls
  pub faults : back.faults ≡ now.drum_faults
  pub disk : back.disk_faults ≡ now.disk_faults
  pub lie : (files : List (List FileBody)) (common : List FileBody) → Lies files common → WhereTold now.disk_contents (λ contents. LieOn contents files common)

-- what is served, with the events that people gave
abbrev pub as_served : List Timed → Played → Served
as_served events (played.Done rec) = Done events rec
as_served events (played.DrumFailed rec) = DrumFailed rec
as_served events (played.DiskFailed rec) = DiskFailed rec

-- what a run handed out whose turns ended so
pub record EndsSo (Lies : List (List FileBody) → List FileBody → Type 0) (ended : Result Unit ServeFault) (b : Bare) (old new : BackState) (events : List Timed) (s : Served) : Type 0 where
  pub run : Result Unit RunFault
  pub hands : Played
  pub so : RunEnds ended run
  pub finishes : Finishes run b old new hands
  pub lies : IfDone hands (λ rec. Lies rec.files rec.common)
  pub served : s ≡ as_served events hands

-- what was served, or what was spent for it
abbrev pub Hosts : Script → (port turns : ℕ) → (was now : MediaSeen) (a b : LinkSeen) → Result Served ServingFault → Type 0
Hosts base port turns was now a b (Ok s) = IsServed base port turns was now a b s
Hosts base port turns was now a b (Err fault) = HasSpent base port turns was now a b
