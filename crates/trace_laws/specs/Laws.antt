-- claim: the trace of a program is the transcript of a script's record, and its states are moments of the script's run.
use Rattle.std.specs.Prelude.{◌≡◌, ℕ, ◌<◌, ◌≤◌, List, [], ◌∷◌, ◌++◌, length}
use Rattle.std.specs.List.{flat_map}
use Rattle.time_sharing.specs.Machine.{Line, Item}
use Rattle.system_model.specs.Run.{Run, AfterSteps}
use Rattle.system_model.specs.Record.{start_of, record_of}
use Rattle.program_trace.specs.Lone.{TracedUser, gone, loaded}
use Rattle.program_trace.specs.Programs.{most_lines}
use Rattle.program_trace.specs.Traces.{traced}
use Rattle.program_trace.specs.declared.types.TracedStep.{TracedStep}
use Rattle.trace_laws.specs.Scripts.{alone_script}

-- says that a run has just this user and these common files, and that as many ticks have passed as the user did steps
pub record IsStateAt (a : TracedUser) (r : Run) : Type 0 where
  pub users : r.system.users ≡ a.user ∷ []
  pub common : r.system.files ≡ a.common
  pub clock : r.system.clock ≡ a.user.own

-- counts the ticks from the login to the end of a trace: each step takes one, those of LOADGO too
abbrev pub ticks_of_trace : ℕ → (deck : List ℕ) → List Line → ℕ
ticks_of_trace n deck lines = (gone n (loaded deck lines)).user.own

-- joins what is read and written until the program is loaded, and behind it what the trace shows of each step
abbrev pub text_of_trace : ℕ → (deck : List ℕ) → List Line → List Item
text_of_trace n deck lines =
    (loaded deck lines).user.transcript ++ flat_map (λ (s : TracedStep). s.items) (traced n deck lines).steps

-- Says that the state of a program after n steps is that of a moment of the script's run, unless it ends before.
abbrev pub TracesAreRuns : Type 0
TracesAreRuns =
    (wq quantum n end : ℕ) (deck : List ℕ) (lines : List Line) → 0 < quantum → length lines ≤ most_lines →
    ticks_of_trace n deck lines ≤ end →
    let script = alone_script wq quantum deck lines end in
    (r : Run) × AfterSteps script.end (start_of script) r × IsStateAt (gone n (loaded deck lines)) r

-- Says that the script that ends where the trace does has a record with one transcript: what the trace shows.
abbrev pub TracesAreTranscripts : Type 0
TracesAreTranscripts =
    (wq quantum n : ℕ) (deck : List ℕ) (lines : List Line) → 0 < quantum → length lines ≤ most_lines →
    let script = alone_script wq quantum deck lines (ticks_of_trace n deck lines) in
    (record_of script).transcripts ≡ text_of_trace n deck lines ∷ []
