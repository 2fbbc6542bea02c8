-- claim: the schedule and the transcripts of a run that stopped are beginnings of the whole run's.
use Rattle.std.specs.Prelude.{◌≡◌, ℕ, ◌+◌, ◌<◌, ◌≤◌, List, [], ◌∷◌, ◌++◌, get_or}
use Rattle.std.specs.List.{All}
use Rattle.ctss_types.specs.declared.script.Script.{Script}
use Rattle.ctss_types.specs.declared.script.Timed.{Timed}
use Rattle.ctss_types.specs.declared.history.Record.{Record}
use Rattle.system_model.specs.Run.{Run, AfterSteps, with_all_events}
use Rattle.system_model.specs.Record.{start_of, record_of}
use Rattle.text_model.specs.Reading.{IsInRange}
use Rattle.time_sharing.specs.Sums.{dumped_in, read_in}
use Rattle.supervisor.specs.Counts.{calls_to_load}
use Rattle.supervisor.specs.Seen.{record_so_far}
use Rattle.supervisor.specs.Steps.{LoadIsNext}
use Rattle.live_run.specs.Parts.{Part, AreInOrder, all_events, run_in, live_script}

-- a list, and one that has more at its end
abbrev pub IsBeginning : {A : Type 0} → List A → List A → Type 0
IsBeginning {A = A} xs all = (more : List A) × (all ≡ xs ++ more)

-- a record, and one whose schedule and whose transcripts have more at their ends
pub record IsBeginningOf (so_far all : Record) : Type 0 where
  pub entries : IsBeginning so_far.entries all.entries
  pub transcripts : (k : ℕ) → IsBeginning (get_or so_far.transcripts k []) (get_or all.transcripts k [])

-- After some whole steps of a script's run the record so far is a beginning of the script's.
abbrev pub StoppedRunsAreBeginnings : Type 0
StoppedRunsAreBeginnings =
    (script : Script) (at : Run) → AfterSteps script.end (start_of script) at → IsBeginningOf (record_so_far at) (record_of script)

-- So it is of a run in parts that stopped in its last part, and the record of the script with all events of these parts.
abbrev pub StoppedPartsAreBeginnings : Type 0
StoppedPartsAreBeginnings =
    (base : Script) (parts : List Part) (p : Part) (last : ℕ) (at : Run) → AreInOrder 0 last (parts ++ p ∷ []) →
    AfterSteps p.limit (with_all_events p.events (run_in parts (start_of (record base { events = [] })))) at →
    IsBeginningOf (record_so_far at) (record_of (live_script base (all_events (parts ++ p ∷ [])) last))

-- A run that a load stopped asks no more of the drum than the whole run. Of a script that was read, the blocks that the run has moved and
-- all that the next load would move are at most those that the script's record moves.
abbrev pub StoppedLoadsAreFew : Type 0
StoppedLoadsAreFew =
    (script : Script) → IsInRange script → (at : Run) → AfterSteps script.end (start_of script) at → at.system.clock < script.end → (load : LoadIsNext at) →
    let rec = record_of script in
    dumped_in at.system.entries + read_in at.system.entries + calls_to_load load.due.user at ≤ dumped_in rec.entries + read_in rec.entries

-- So it is of a run in parts that a load stopped in its last part, and the record of the script with all events of these parts.
abbrev pub StoppedPartLoadsAreFew : Type 0
StoppedPartLoadsAreFew =
    (base : Script) (parts : List Part) (p : Part) (last : ℕ) (at : Run) → IsInRange base → AreInOrder 0 last (parts ++ p ∷ []) →
    All (λ (e : Timed). (1 ≤ e.console) × (e.console ≤ 32)) (all_events (parts ++ p ∷ [])) →
    AfterSteps p.limit (with_all_events p.events (run_in parts (start_of (record base { events = [] })))) at → at.system.clock < p.limit → (load : LoadIsNext at) →
    let rec = record_of (live_script base (all_events (parts ++ p ∷ [])) last) in
    dumped_in at.system.entries + read_in at.system.entries + calls_to_load load.due.user at ≤ dumped_in rec.entries + read_in rec.entries
