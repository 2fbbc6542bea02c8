-- claim: what the product promises of a replay, of cards and of live consoles, in a client's words.
use Rattle.std.specs.Prelude.{◌≡◌, ◌<◌, ◌≤◌, ◌-◌, ◌*◌, ℕ, true, false, List, [], ◌∷◌, ◌++◌, length, take, drop, get_or, Some, Ok, Err}
use Rattle.std.specs.List.{All, flat_map}
use Rattle.faults.specs.Faults.{Rose}
use Rattle.ctss_types.specs.declared.script.Script.{Script}
use Rattle.ctss_types.specs.declared.script.Timed.{Timed}
use Rattle.ctss_types.specs.declared.history.Record.{Record}
use Rattle.time_sharing.specs.System.{Entry}
use Rattle.time_sharing.specs.Feeds.{feed_of}
use Rattle.medium.specs.MediumState.{rows_told}
use Rattle.text_model.specs.declared.cause.ScriptRefusal.{ScriptRefusal}
use Rattle.text_model.specs.Causes.{cause_number}
use Rattle.text_model.specs.Canonical.{script_text_of, word_cards}
use Rattle.text_model.specs.Reading.{script_of, max_bytes}
use Rattle.text_model.specs.Report.{report_of}
use Rattle.text_model.specs.Words.{script_refused, faults_text}
use Rattle.script_read.specs.Bases.{base_of}
use Rattle.system_model.specs.Record.{start_of, record_of, first_of_user, EachIsAlone, IsOneList}
use Rattle.supervisor.specs.Counts.{IsCounted, IsCountedToLoad}
use Rattle.file_tracks.specs.Lying.{LieOn}
use Rattle.fap_model.specs.Decks.{deck, faulty}
use Rattle.console_texts.specs.Watching.{texts_to}
use Rattle.console_link.specs.Links.{LinkSeen}
use Rattle.console_link.specs.Memory.{memory_seen}
use Rattle.console_server.specs.Visits.{Visit, events_at, events_of_visit, IsSentFrom}
use Rattle.live_run.specs.Beginnings.{IsBeginning, IsBeginningOf}
use Rattle.live_run.specs.Parts.{live_script}
use Rattle.live_serve.specs.Talks.{IsTalk, silent}
use Rattle.ctss_modes.specs.Asm.{assembled_from}
use Rattle.ctss_modes.specs.Devices.{Stands}
use Rattle.ctss_modes.specs.Outcomes.{IsOneOf}
use Rattle.ctss_modes.specs.Top.{status_of_script}
use Rattle.promises.specs.declared.machine.Machine.{Machine}
use Rattle.promises.specs.declared.replaying.Answered.{Answered}

-- what stands on the drum and the disk, how often they were called, and what passed over the link are as before
pub record IsUntouched (old new : Machine) : Type 0 where
  pub disk : rows_told new.disk ≡ rows_told old.disk
  pub drum_calls : new.drum.calls ≡ old.drum.calls
  pub disk_calls : new.disk.calls ≡ old.disk.calls
  pub link : memory_seen new.link ≡ memory_seen old.link

-- what is true of the record of a script's whole run
pub record IsRunOf (script : Script) (run : Record) (old new : Machine) : Type 0 where
  -- it is the one record that the rules give
  pub record_is : run ≡ record_of script
  -- each user's transcript and files are those of that user's machine alone
  pub alone : EachIsAlone script run
  -- the replies of the common files are those of one list of files
  pub shared : IsOneList script run
  -- the drum was called as often as the schedule says
  pub counted : IsCounted [] run.entries old.drum.calls new.drum.calls
  -- each file is on tracks of its own
  pub lie : (contents : List (List ℕ)) → rows_told new.disk ≡ Some contents → LieOn contents run.files run.common

-- Status 0 of a replay: the bytes are a script, and its report was written.
pub record IsReplayed (bytes : List ℕ) (old new : Machine) (a : Answered) : Type 0 where
  pub script : Script
  pub read : script_of bytes ≡ Ok script
  pub run : IsRunOf script a.outcome.run old new
  pub text : a.output.held ≡ report_of script (record_of script) false

-- Status 2: the bytes are no script, and the refusal was written; nothing else was touched.
pub record IsRefused (bytes : List ℕ) (old new : Machine) (a : Answered) : Type 0 where
  pub refusal : ScriptRefusal
  pub refused : script_of bytes ≡ Err refusal
  pub card : a.outcome.card ≡ refusal.card
  pub cause : a.outcome.cause ≡ cause_number refusal.cause
  pub text : a.output.held ≡ script_refused refusal.card (cause_number refusal.cause)
  pub untouched : IsUntouched old new

-- Status 5: the drum failed. Nothing was written. What is known is a beginning of the script's record, without files; the drum
-- was called as its loads say, and as far as a next load that failed.
pub record HasStopped (bytes : List ℕ) (old new : Machine) (a : Answered) : Type 0 where
  pub script : Script
  pub read : script_of bytes ≡ Ok script
  pub silent : a.output.held ≡ []
  pub beginning : IsBeginningOf a.outcome.run (record_of script)
  pub own_files : a.outcome.run.files ≡ []
  pub common_files : a.outcome.run.common ≡ []
  pub most : ℕ
  pub counted : IsCountedToLoad [] a.outcome.run.entries old.drum.calls new.drum.calls most

-- Status 6: the disk failed. Nothing was written. What is known is a beginning of the script's record, without files; the drum
-- was called as its loads say.
pub record HasLostFiles (bytes : List ℕ) (old new : Machine) (a : Answered) : Type 0 where
  pub script : Script
  pub read : script_of bytes ≡ Ok script
  pub silent : a.output.held ≡ []
  pub beginning : IsBeginningOf a.outcome.run (record_of script)
  pub own_files : a.outcome.run.files ≡ []
  pub common_files : a.outcome.run.common ≡ []
  pub counted : IsCounted [] a.outcome.run.entries old.drum.calls new.drum.calls

-- the first part of a text, and not all of it
abbrev pub IsProperPart : List ℕ → List ℕ → Type 0
IsProperPart part text = (n : ℕ) × (n < length text) × (part ≡ take n text)

-- Status 4: the output failed. It holds a part of the report of the script's record, or of the refusal.
pub data IsCutShort (bytes : List ℕ) (old new : Machine) (a : Answered) : Type 0 where
  ReportCut : (script : Script) → script_of bytes ≡ Ok script → IsProperPart a.output.held (report_of script (record_of script) false)
      → a.outcome.run ≡ record_of script → IsCounted [] a.outcome.run.entries old.drum.calls new.drum.calls → IsCutShort bytes old new a
  RefusalCut : (refusal : ScriptRefusal) → script_of bytes ≡ Err refusal
      → IsProperPart a.output.held (script_refused refusal.card (cause_number refusal.cause)) → IsCutShort bytes old new a

-- Status 8 of a replay: memory ran out. The drum was not called; or it was called as the loads of some entries say, which are the
-- first ones of the script's schedule; or it failed before.
pub data HasRunOut (bytes : List ℕ) (old new : Machine) : Type 0 where
  Unbegun : new.drum.calls ≡ old.drum.calls → memory_seen new.link ≡ memory_seen old.link → HasRunOut bytes old new
  InRun : (script : Script) → script_of bytes ≡ Ok script → (entries : List Entry) → IsBeginning entries (record_of script).entries
      → IsCounted [] entries old.drum.calls new.drum.calls → HasRunOut bytes old new
  AtLoad : (script : Script) → script_of bytes ≡ Ok script → (rec : Record) → IsBeginningOf rec (record_of script) → (most : ℕ)
      → IsCountedToLoad [] rec.entries old.drum.calls new.drum.calls most → HasRunOut bytes old new

-- Status 3 and 8: nothing was written; if reading failed, nothing else was touched.
pub record IsSilent (bytes : List ℕ) (old new : Machine) (a : Answered) : Type 0 where
  pub unread : a.outcome.status ≡ 3 → (a.output.held ≡ []) × IsUntouched old new
  pub run_out : a.outcome.status ≡ 8 → (a.output.held ≡ []) × HasRunOut bytes old new

-- A fault is answered only if that object's count of faults rose.
pub record HasCause (old new : Machine) (a : Answered) : Type 0 where
  pub reading : a.outcome.status ≡ 3 → Rose 0 a.input.faults
  pub writing : a.outcome.status ≡ 4 → Rose 0 a.output.faults
  pub drum : a.outcome.status ≡ 5 → Rose old.drum.fault_count new.drum.fault_count
  pub disk : a.outcome.status ≡ 6 → Rose old.disk.fault_count new.disk.fault_count

-- no call of the input, the output, the drum, the disk or the listener failed
pub record NothingFailed (old new : Machine) (a : Answered) : Type 0 where
  pub input : Stands 0 a.input.faults
  pub output : Stands 0 a.output.faults
  pub drum : Stands old.drum.fault_count new.drum.fault_count
  pub disk : Stands old.disk.fault_count new.disk.fault_count
  pub link : Stands (memory_seen old.link).faults (memory_seen new.link).faults

-- The status is one that a replay of these bytes can have; and if nothing failed, it is the one that the bytes define, or 8.
pub record IsAsAsked (bytes : List ℕ) (old new : Machine) (a : Answered) : Type 0 where
  pub script : (script : Script) → script_of bytes ≡ Ok script → IsOneOf a.outcome.status (0 ∷ 3 ∷ 4 ∷ 5 ∷ 6 ∷ 8 ∷ [])
  pub refusal : (refusal : ScriptRefusal) → script_of bytes ≡ Err refusal → IsOneOf a.outcome.status (2 ∷ 3 ∷ 4 ∷ 8 ∷ [])
  pub whole : NothingFailed old new a → IsOneOf a.outcome.status (status_of_script (script_of bytes) ∷ 8 ∷ [])

-- Cards are assembled without drum, disk or link. Status 0: the deck was written; status 9: the faults were.
pub record IsAssembled (bytes : List ℕ) (old new : Machine) (a : Answered) : Type 0 where
  pub untouched : IsUntouched old new
  pub done : a.outcome.status ≡ 0 → (words : List ℕ) × (assembled_from bytes ≡ deck words) × (a.output.held ≡ word_cards words)
  pub faulty : a.outcome.status ≡ 9 → (faults : List (ℕ × ℕ)) × (assembled_from bytes ≡ faulty faults) × (a.output.held ≡ faults_text faults)

-- Two replays agree of a user: where account, first files and what came to the user are the same, transcript and files are.
abbrev pub AgreesOf : (u v : ℕ) → (one other : Script) → (first second : Record) → Type 0
AgreesOf u v one other first second =
    first_of_user one u ≡ first_of_user other v → feed_of u one.events first.entries ≡ feed_of v other.events second.entries →
    (get_or first.transcripts (u - 1) [] ≡ get_or second.transcripts (v - 1) []) × (get_or first.files (u - 1) [] ≡ get_or second.files (v - 1) [])

-- What the script has of a console is what its visitors typed, one after another. If the link's bytes are observable, these are all bytes
-- that were taken from them, and what each was sent is a beginning of the console's text in the run of the script, from where that text
-- ended when the visitor came.
pub record IsServedAt (script : Script) (turns console : ℕ) (link : LinkSeen) : Type 0 where
  pub visits : List Visit
  pub heard : events_at console script.events ≡ flat_map events_of_visit visits
  pub taken : link.tells ≡ true → All (λ (v : Visit). (link.passed v.id).taken ≡ v.bytes) visits
  pub sent :
      link.tells ≡ true
      → All (λ (v : Visit). IsSentFrom v.place (get_or (texts_to (1000 * turns) (start_of script) silent) (console - 1) []) (link.passed v.id).sent) visits

-- Status 0 of live consoles: what was written is the script of the base and of what people typed, and its report.
pub record IsServed (base : List ℕ) (port turns : ℕ) (old new : Machine) (a : Answered) : Type 0 where
  pub first : Script
  pub read : base_of base ≡ Ok first
  pub events : List Timed
  pub script : Script
  pub script_is : script ≡ live_script first events (1000 * turns)
  pub talk : IsTalk first true port turns events (memory_seen old.link) (memory_seen new.link)
  pub people : (console : ℕ) → 1 ≤ console → IsServedAt script turns console (memory_seen new.link)
  pub run : IsRunOf script a.outcome.run old new
  pub text : a.output.held ≡ script_text_of script ++ report_of script (record_of script) false

-- Live consoles were served, and the first bytes of what was written were replayed. If those are the text of the script that was
-- served, the replay wrote what was written after them.
abbrev pub WritesItsReplay : (base : List ℕ) (port turns len : ℕ) (old new : Machine) (first second : Answered) → Type 0
WritesItsReplay base port turns len old new first second =
    (s : IsServed base port turns old new first) → length (script_text_of s.script) ≡ len → len ≤ max_bytes
    → second.output.held ≡ drop len first.output.held
