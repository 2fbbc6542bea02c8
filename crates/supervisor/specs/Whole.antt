-- claim: a run and what lies behind its users' sessions as one value, and what a call does to it.
use Rattle.std.specs.Prelude.{◌≡◌, ℕ, ◌≤◌, Bool, true, false, length, ⊤}
use Rattle.std.specs.declared.result.Result.{Result}
use Rattle.faults.specs.Faults.{Rose}
use Rattle.ctss_types.specs.declared.fault.RunFault.{RunFault}
use Rattle.plan_model.specs.Loads.{is_loaded, no_places}
use Rattle.system_model.specs.Run.{Run}
use Rattle.user_cores.specs.Backing.{BackState, size}
use Rattle.user_cores.specs.Swaps.{IsCutOff}
use Rattle.supervisor.specs.Counts.{IsCounted, calls_to_load}
use Rattle.supervisor.specs.Runs.{DoesMany}
use Rattle.supervisor.specs.Seen.{Bare, bare_of, run_with}
use Rattle.supervisor.specs.Shows.{texts_of, TextsGrow, GoesOn, HasTexts, HasTextsPart, HasTextsShown}
use Rattle.supervisor.specs.declared.state.State.{State}
use Rattle.supervisor.specs.declared.watch.Watch.{Watch}
use Rattle.supervisor.specs.Steps.{Does, Stays, IsHeld, IsTied, IsServedNext, LoadFails, NextLoadFails, HasRun, HasRunOnce, HasRunPart, HasRunShown, HasRunToLoad, Ends, Lasts}

-- a run but for what lies behind its users' sessions, and this
pub record Whole : Type 0 where
  pub bare : Bare
  pub back : BackState

abbrev pub whole_of : Bare → BackState → Whole
whole_of bare back = record { bare = bare; back = back }

abbrev pub whole : State → BackState → Whole
whole s back = whole_of (bare_of s) back

-- the same with what the consoles have shown
abbrev pub watched : Watch → BackState → Whole
watched w back = whole_of (record (bare_of w.state) { texts = texts_of w.state.sessions.items w.texts }) back

-- the run, with users' blocks where they lie
abbrev pub run_of : Whole → Run
run_of s = run_with s.back.held.places s.bare

-- the run, wherever users' blocks lie
abbrev pub run_apart : Whole → Run
run_apart s = run_with no_places s.bare

-- what holds at each moment
abbrev pub Holds : Whole → Type 0
Holds s = IsHeld (run_of s) s.back.held

-- the next step is one of the user whose service is open, and all its blocks are in core
abbrev pub IsReady : Whole → Type 0
IsReady s = IsServedNext (run_of s) s.back.held

-- all blocks of a user are in core, or not
abbrev pub HasBlocks : ℕ → Bool → Whole → Type 0
HasBlocks user has s = is_loaded s.back.held.places user (size s.back user) ≡ has

-- what happened is what this function does; nothing happened; what happened is some whole steps without an entry
abbrev pub StepsBy : (Run → Run) → Whole → Whole → Type 0
StepsBy f old new = Does f (run_of old) (run_of new) old.back.held new.back.held

abbrev pub IsSame : Whole → Whole → Type 0
IsSame old new = Stays (run_of old) (run_of new) old.back.held new.back.held

abbrev pub StepsOn : ℕ → Whole → Whole → Type 0
StepsOn limit old new = DoesMany limit (run_of old) (run_of new) old.back.held new.back.held

-- users and what lies behind them agree
abbrev pub AreTied : Whole → Type 0
AreTied s = IsTied s.bare.users s.back.held

-- and so do the common files in the tracks that they may have
pub record Agrees (s : Whole) : Type 0 where
  pub tied : AreTied s
  pub common : s.back.held.common ≡ s.bare.common

-- the drum's calls are those that the schedule gained
abbrev pub AreCounted : Whole → Whole → Type 0
AreCounted old new = IsCounted old.bare.entries new.bare.entries old.back.calls new.back.calls

abbrev pub AreCountedBy : Result Unit RunFault → Whole → Whole → Type 0
AreCountedBy result old new = Ends result (AreCounted old new) (AreCounted old new) ⊤ (AreCounted old new)

-- a load was cut off: of this user; of this user, whose blocks were not all in core; of the one to be served; the next step's
abbrev pub LoadIsCut : ℕ → Whole → Whole → Type 0
LoadIsCut user old new = IsCutOff old.back.calls new.back.calls (calls_to_load user (run_of old))

abbrev pub AbsentIsCut : ℕ → Whole → Whole → Type 0
AbsentIsCut user old new = HasBlocks user false old × LoadIsCut user old new

-- no load was
abbrev pub NeverCut : Whole → Whole → Type 0
NeverCut old new = ⊥

abbrev pub ServedIsCut : Whole → Whole → Type 0
ServedIsCut old new = LoadFails (run_of old) old.back.calls new.back.calls

abbrev pub NextIsCut : Whole → Whole → Type 0
NextIsCut old new = NextLoadFails (run_of old) old.back.calls new.back.calls

-- where the disk fails, nothing happened but in what lies behind
abbrev pub DiskStops : Whole → Whole → Type 0
DiskStops old new = (run_of new ≡ run_of old) × Rose old.back.disk_faults new.back.disk_faults

-- One step: what this function does; nothing but an operation on the common files, where memory lacks, or the disk fails; and where the drum
-- fails no part of the run but what lies in core has changed, the count of the drum's faults rose, and a load was cut off so.
abbrev pub Steps : (Run → Run) → (Whole → Whole → Type 0) → Result Unit RunFault → Whole → Whole → Type 0
Steps f Cut result old new =
    Ends result (StepsBy f old new) (IsSame old new)
    ((run_apart new ≡ run_apart old) × Rose old.back.faults new.back.faults × Cut old new)
    (DiskStops old new)

-- What the consoles show after one step.
abbrev pub TextsFollow : ℕ → Result Unit RunFault → Whole → Whole → Type 0
TextsFollow limit result old new =
    Ends result (GoesOn limit (run_of old) (run_of new) old.bare.texts new.bare.texts)
    (new.bare.texts ≡ old.bare.texts) (new.bare.texts ≡ old.bare.texts) (new.bare.texts ≡ old.bare.texts)

-- Whole steps: all up to the limit; some of them where memory lacks; some that are shown where the disk fails; and where the drum fails those
-- before a load.
abbrev pub RunsTo : ℕ → Result Unit RunFault → Whole → Whole → Type 0
RunsTo limit result old new =
    Ends result (HasRun limit (run_of old) (run_of new) old.back.held new.back.held)
    (HasRunPart limit (run_of old) (run_of new) old.back.held new.back.held)
    (HasRunToLoad limit (run_of old) (run_apart new) old.back.held old.back.calls new.back.calls × Rose old.back.faults new.back.faults)
    (HasRunShown limit (run_of old) (run_apart new) old.back.held × Rose old.back.disk_faults new.back.disk_faults)

-- What the consoles show after them.
abbrev pub TextsRunTo : ℕ → Result Unit RunFault → Whole → Whole → Type 0
TextsRunTo limit result old new =
    Ends result (HasTexts limit (run_of old) old.back.held old.bare.texts new.bare.texts)
    (HasTextsShown limit (run_of old) (run_apart new) old.back.held old.bare.texts new.bare.texts)
    (HasTextsShown limit (run_of old) (run_apart new) old.back.held old.bare.texts new.bare.texts)
    (HasTextsShown limit (run_of old) (run_apart new) old.back.held old.bare.texts new.bare.texts)

-- The run of a supervisor to a limit: whole steps with what the consoles show of them, of which nothing is taken back, the drum's
-- calls as the loads say, and that a fault ended it. There are as many consoles as before. Unless drum or disk failed they tell their
-- records or not as before, and users and what lies behind them agree.
pub record Advances (limit : ℕ) (result : Result Unit RunFault) (old new : Whole) : Type 0 where
  pub ended : RunsTo limit result old new
  pub texts : TextsRunTo limit result old new
  pub grows : TextsGrow old.bare.texts new.bare.texts
  pub seats : length new.bare.consoles ≡ length old.bare.consoles
  pub counted : AreCountedBy result old new
  pub cut : Ends result (new.bare.ended ≡ old.bare.ended) (new.bare.ended ≡ true) (new.bare.ended ≡ true) (new.bare.ended ≡ true)
  pub tells : Lasts result (new.back.held.tells ≡ old.back.held.tells)
  pub tied : Lasts result (Agrees new)
  pub faults_grow : old.back.faults ≤ new.back.faults
  pub disk : old.back.disk_faults ≤ new.back.disk_faults

-- One step, and then steps at which no event is due and which write no entry; with what the consoles show of them.
pub record GoesOnce (limit : ℕ) (old new : Whole) : Type 0 where
  pub run : HasRunOnce limit (run_of old) (run_of new) old.back.held new.back.held
  pub texts : HasTextsPart limit (run_of old) (run_of new) old.back.held new.back.held old.bare.texts new.bare.texts

-- The same of a supervisor that met no fault, and all else as after a run to a limit.
pub record AdvancesOnce (limit : ℕ) (old new : Whole) : Type 0 where
  pub goes : GoesOnce limit old new
  pub grows : TextsGrow old.bare.texts new.bare.texts
  pub seats : length new.bare.consoles ≡ length old.bare.consoles
  pub counted : AreCounted old new
  pub cut : new.bare.ended ≡ old.bare.ended
  pub tells : new.back.held.tells ≡ old.back.held.tells
  pub tied : Agrees new
  pub faults_grow : old.back.faults ≤ new.back.faults
  pub disk : old.back.disk_faults ≤ new.back.disk_faults
