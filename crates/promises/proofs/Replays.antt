-- The sentences of a replay, from the clauses of the top call and public laws.
use Rattle.std.proofs.Common.{◌≡◌, ◌<◌, ◌≤◌, ℕ, Bool, true, false, nat_le, List, [], ◌∷◌, ◌++◌, length, get_or, take, Option, Some, Ok, Err, refl, sym, ap, ◌∙◌, subst, arith, append-nil}
use Rattle.std.proofs.lemmas.Bool.Decides.{nat_tests}
use Rattle.std.proofs.lemmas.List.{length-append}
use Rattle.faults.specs.Faults.{WhereTold}
use Rattle.ctss_types.specs.declared.script.Script.{Script}
use Rattle.ctss_types.specs.declared.history.Record.{Record}
use Rattle.ctss_io.specs.Outside.{prepended, IsAtEnd}
use Rattle.text_model.specs.declared.mode.Mode.{Mode}
use Rattle.text_model.specs.declared.mode.Mode.TheVariants.{Replay}
use Rattle.text_model.specs.declared.cause.ScriptCause.TheVariants.{TooLong}
use Rattle.text_model.specs.declared.cause.ScriptRefusal.{ScriptRefusal}
use Rattle.text_model.specs.Causes.{cause_number}
use Rattle.text_model.specs.Reading.{script_of, max_bytes}
use Rattle.text_model.specs.Report.{report_of}
use Rattle.text_model.specs.Words.{mode_of, script_refused}
use Rattle.system_model.specs.Run.{Run, AfterSteps}
use Rattle.system_model.specs.Record.{start_of, record_of}
use Rattle.supervisor.specs.Seen.{record_so_far, without_files}
use Rattle.file_tracks.specs.Lying.{LieOn}
use Rattle.live_run.specs.Beginnings.{IsBeginningOf, StoppedRunsAreBeginnings}
use Rattle.ctss_modes.specs.declared.outcome.Outcome.{Outcome}
use Rattle.ctss_modes.specs.Modes.{IsSpelled, reads_script}
use Rattle.ctss_modes.specs.Modes.{IsRefused as IsRefusedText}
use Rattle.ctss_modes.specs.Outcomes.{IsOneOf}
use Rattle.ctss_modes.specs.Played.{LacksFiles, AtStart, InRun, AtEnd, HasSpent, InSteps}
use Rattle.ctss_modes.specs.Played.{AtLoad as SpentAtLoad}
use Rattle.ctss_modes.specs.Top.{IsRun, IsRefusal, RunIsStopped, RunLosesFiles, IsCutOff, IsTextOf, OfWords, OfRefusal, OfRun, OfCards, ScriptSpends, Begun, SpendsFor, IsAllowed, IsComplete, statuses_for, statuses_of, status_due}
use Rattle.ctss_modes.specs.Top.{Unbegun as SpentUnbegun, ScriptIsStopped, ScriptLosesFiles, StopsFor, LosesFor}
use Rattle.ctss_modes.specs.Top.{IsSilent as IsSilentOutcome}
use Rattle.ctss_modes.specs.Top.{HasCause as HasCauseOf}
use Rattle.ctss_modes.specs.Top.{NothingFailed as NothingFailedOf}
use Rattle.promises.specs.Machines.{IsReady}
use Rattle.promises.specs.Sentences.{IsReplayed, IsRefused, HasStopped, HasLostFiles, IsCutShort, ReportCut, RefusalCut, HasRunOut, Unbegun, InRun as RunsOutInRun, AtLoad, IsSilent, HasCause, IsAsAsked}
use Rattle.promises.specs.declared.machine.Machine.{Machine}
use Rattle.promises.specs.declared.replaying.Answered.{Answered}
use Rattle.ctss_io.specs.Memory.{SourceState, SinkState}
use Rattle.ctss_modes.specs.Devices.{DevicesSeen}
use Rattle.promises.proofs.Devices.{media_of, seen, source, sink, shows, all_read, written, nothing_written, untouched, of_made}

spelled : (bytes rest : List ℕ) (script : Script) → IsSpelled Replay (Some bytes) (Some rest) script → script_of bytes ≡ Ok script
spelled bytes rest script s = ap script_of (sym (all_read bytes s.bytes rest s.came s.whole)) ∙ s.spelled

same_mode : (words : List (List ℕ)) (mode : Mode) → mode_of words ≡ Some Replay → mode_of words ≡ Some mode → Replay ≡ mode
same_mode words mode is asked = inside (sym is ∙ asked)
  where
    inside : Some Replay ≡ Some mode → Replay ≡ mode
    inside e = cc

-- status 0
pub is_replayed : (bytes reads puts : List ℕ) (room : ℕ) (old new : Machine) (a : Answered) → IsReady old
    → IsRun Replay (seen (source bytes reads) (sink room puts) old) (seen a.input a.output new) a.outcome → IsReplayed bytes old new a
is_replayed bytes reads puts room old new a ready run =
    let open_records = shows old ready in
    let is = run.run open_records in
    record {
      script = run.script;
      read = spelled bytes a.input.left run.script run.comes;
      run =
          record {
            record_is = is;
            alone = run.alone open_records;
            shared = run.shared open_records;
            counted = run.counted;
            lie = λ contents e. subst (λ (told : Option (List (List ℕ))). WhereTold told (λ c. LieOn c a.outcome.run.files a.outcome.run.common)) e run.lie;
          };
      text = written a.output.held (report_of run.script a.outcome.run false) run.written ∙ ap (λ (r : Record). report_of run.script r false) is;
    }

-- status 2
too_long : (bytes : List ℕ) → max_bytes < length bytes → script_of bytes ≡ Err (record { card = 0; cause = TooLong })
unfolding script_of
too_long bytes h = let e : nat_le (length bytes) max_bytes ≡ false = grind (arith, nat_tests) in rw e refl

refused_too : (bytes came rest : List ℕ) (refusal : ScriptRefusal) → Some bytes ≡ prepended came (Some rest) → (length came ≤ max_bytes → IsAtEnd (Some rest))
    → script_of came ≡ Err refusal → script_of bytes ≡ Err refusal
refused_too bytes came rest refusal e whole refused = by_size (nat_le (length came) max_bytes) refl
  where
    inside : Some bytes ≡ Some (came ++ rest) → bytes ≡ came ++ rest
    inside e = cc

    by_size : (b : Bool) → nat_le (length came) max_bytes ≡ b → script_of bytes ≡ Err refusal
    by_size true few = let le : length came ≤ max_bytes = grind (arith, nat_tests) in ap script_of (sym (all_read bytes came rest e (whole le))) ∙ refused
    by_size false many =
        let long : max_bytes < length came = grind (arith, nat_tests) in
        let longer = ap length (inside e) ∙ length-append came rest in
        too_long bytes (omega (arith, long, longer)) ∙ sym (too_long came long) ∙ refused

pub is_refused : (words : List (List ℕ)) (bytes reads puts : List ℕ) (room : ℕ) (old new : Machine) (a : Answered) → mode_of words ≡ Some Replay
    → IsRefusal words (seen (source bytes reads) (sink room puts) old) (seen a.input a.output new) a.outcome → a.outcome.status ≡ 2 → IsRefused bytes old new a
is_refused words bytes reads puts room old new a asked refusal two =
    let r = refusal.of_script Replay asked refl two in
    record {
      refusal = r.refusal;
      refused = refused_too bytes r.bytes a.input.left r.refusal r.read.came r.read.whole r.read.refused;
      card = ap (λ (o : Outcome). o.card) r.outcome;
      cause = ap (λ (o : Outcome). o.cause) r.outcome;
      text = written a.output.held (script_refused r.refusal.card (cause_number r.refusal.cause)) r.written;
      untouched = untouched old new r.media r.link;
    }

-- status 5
module _ (law : StoppedRunsAreBeginnings) where
  begins : (script : Script) (at : Run) (rec : Record) → AfterSteps script.end (start_of script) at → rec ≡ record_so_far at → IsBeginningOf rec (record_of script)
  begins script at rec part shown = subst (λ (r : Record). IsBeginningOf r (record_of script)) (sym shown) (law script at part)

  stops : (bytes reads puts : List ℕ) (room : ℕ) (old new : Machine) (a : Answered) → IsReady old
      → ScriptIsStopped Replay (seen (source bytes reads) (sink room puts) old) (seen a.input a.output new) a.outcome → Some a.output.held ≡ Some [] → HasStopped bytes old new a
  stops bytes reads puts room old new a ready s silent =
      let h = s.stopped.stopped (shows old ready) in
      record {
        script = s.script;
        read = spelled bytes a.input.left s.script s.comes;
        silent = nothing_written a.output.held silent;
        beginning = begins s.script h.at a.outcome.run h.part h.shown;
        own_files = s.stopped.bare.own;
        common_files = s.stopped.bare.common;
        most = _;
        counted = h.counted;
      }

  pub has_stopped : (words : List (List ℕ)) (bytes reads puts : List ℕ) (room : ℕ) (old new : Machine) (a : Answered) → IsReady old → mode_of words ≡ Some Replay
      → RunIsStopped words (seen (source bytes reads) (sink room puts) old) (seen a.input a.output new) a.outcome → HasStopped bytes old new a
  has_stopped words bytes reads puts room old new a ready asked run =
      stops bytes reads puts room old new a ready
      (subst (λ (m : Mode). StopsFor m (seen (source bytes reads) (sink room puts) old) (seen a.input a.output new) a.outcome) (sym (same_mode words run.mode asked run.asked)) run.stopped)
      run.silent

  -- status 6
  at_start : (script : Script) → AfterSteps script.end (start_of script) (start_of script)
  unfolding AfterSteps
  at_start script = (0, refl)

  same_beginning : (rec : Record) → IsBeginningOf (without_files rec) rec
  same_beginning rec =
      record { entries = ([], sym (append-nil rec.entries)); transcripts = λ k. ([], sym (append-nil (get_or rec.transcripts k []))) }

  lost_begins : (script : Script) (old new : Machine) (rec : Record) → IsReady old → LacksFiles script (media_of old) (media_of new) rec → IsBeginningOf rec (record_of script)
  lost_begins script old new rec ready (AtStart calls shown) = begins script (start_of script) rec (at_start script) shown
  lost_begins script old new rec ready (InRun part) = let p = part (shows old ready) in begins script p.at rec p.part p.shown
  lost_begins script old new rec ready (AtEnd whole) =
      subst (λ (r : Record). IsBeginningOf r (record_of script)) (sym (whole (shows old ready))) (same_beginning (record_of script))

  loses : (bytes reads puts : List ℕ) (room : ℕ) (old new : Machine) (a : Answered) → IsReady old
      → ScriptLosesFiles Replay (seen (source bytes reads) (sink room puts) old) (seen a.input a.output new) a.outcome → Some a.output.held ≡ Some [] → HasLostFiles bytes old new a
  loses bytes reads puts room old new a ready s silent =
      record {
        script = s.script;
        read = spelled bytes a.input.left s.script s.comes;
        silent = nothing_written a.output.held silent;
        beginning = lost_begins s.script old new a.outcome.run ready s.lost.lacks;
        own_files = s.lost.bare.own;
        common_files = s.lost.bare.common;
        counted = s.lost.counted;
      }

  pub has_lost : (words : List (List ℕ)) (bytes reads puts : List ℕ) (room : ℕ) (old new : Machine) (a : Answered) → IsReady old → mode_of words ≡ Some Replay
      → RunLosesFiles words (seen (source bytes reads) (sink room puts) old) (seen a.input a.output new) a.outcome → HasLostFiles bytes old new a
  has_lost words bytes reads puts room old new a ready asked run =
      loses bytes reads puts room old new a ready
      (subst (λ (m : Mode). LosesFor m (seen (source bytes reads) (sink room puts) old) (seen a.input a.output new) a.outcome) (sym (same_mode words run.mode asked run.asked)) run.loses)
      run.silent

  -- status 8
  runs_out : (bytes reads puts : List ℕ) (room : ℕ) (old new : Machine) (a : Answered) → IsReady old
      → ScriptSpends Replay (seen (source bytes reads) (sink room puts) old) (seen a.input a.output new) → HasRunOut bytes old new
  runs_out bytes reads puts room old new a ready (SpentUnbegun calls link) = Unbegun calls link
  runs_out bytes reads puts room old new a ready (Begun script comes spent) = by_spent spent
    where
      by_spent : HasSpent script (media_of old) (media_of new) → HasRunOut bytes old new
      by_spent (InSteps entries counted begins) = RunsOutInRun script (spelled bytes a.input.left script comes) entries (begins (shows old ready)) counted
      by_spent (SpentAtLoad stopped) =
          let s = stopped (shows old ready) in
          AtLoad script (spelled bytes a.input.left script comes) s.0 (begins script s.1.at s.0 s.1.part s.1.shown) _ s.1.counted

  pub is_silent : (words : List (List ℕ)) (bytes reads puts : List ℕ) (room : ℕ) (old new : Machine) (a : Answered) → IsReady old → mode_of words ≡ Some Replay
      → (IsOneOf a.outcome.status (3 ∷ 7 ∷ 8 ∷ []) → IsSilentOutcome a.outcome.status (seen (source bytes reads) (sink room puts) old) (seen a.input a.output new) a.outcome)
      → (IsOneOf a.outcome.status (7 ∷ 8 ∷ []) → (m : Mode) → mode_of words ≡ Some m → SpendsFor m (seen (source bytes reads) (sink room puts) old) (seen a.input a.output new))
      → IsSilent bytes old new a
  is_silent words bytes reads puts room old new a ready asked silent spent =
      record {
        unread = λ three.
            let s = silent (ap (λ (n : ℕ). Rattle.std.specs.List.list_any (Rattle.std.specs.Prelude.nat_eq n) (3 ∷ 7 ∷ 8 ∷ [])) three) in
            (nothing_written a.output.held s.same, untouched old new (s.media three) (s.link three));
        run_out = λ eight.
            let s = silent (ap (λ (n : ℕ). Rattle.std.specs.List.list_any (Rattle.std.specs.Prelude.nat_eq n) (3 ∷ 7 ∷ 8 ∷ [])) eight) in
            let p = spent (ap (λ (n : ℕ). Rattle.std.specs.List.list_any (Rattle.std.specs.Prelude.nat_eq n) (7 ∷ 8 ∷ [])) eight) Replay asked in
            (nothing_written a.output.held s.same, runs_out bytes reads puts room old new a ready p);
      }

-- status 4
part_of : (held text : List ℕ) (n : ℕ) → Some held ≡ Some ([] ++ take n text) → held ≡ take n text
part_of held text n e = cc

pub is_cut_short : (words : List (List ℕ)) (bytes reads puts : List ℕ) (room : ℕ) (old new : Machine) (a : Answered) → IsReady old → mode_of words ≡ Some Replay
    → IsCutOff words (seen (source bytes reads) (sink room puts) old) (seen a.input a.output new) a.outcome → IsCutShort bytes old new a
is_cut_short words bytes reads puts room old new a ready asked cut = by_text cut.said
  where
    by_text : IsTextOf words (seen (source bytes reads) (sink room puts) old) (seen a.input a.output new) a.outcome.run cut.text → IsCutShort bytes old new a
    by_text (OfWords none unread run text) = absurd (let e = sym none ∙ asked in cc)
    by_text (OfRefusal mode is reads came refusal read media link run text) =
        let r = subst (λ (m : Mode). IsRefusedText m (Some bytes) (Some a.input.left) came refusal) (sym (same_mode words mode asked is)) read in
        let p = subst (λ (t : List ℕ). (n : ℕ) × (n < length t) × (Some a.output.held ≡ Some ([] ++ take n t))) text cut.part in
        RefusalCut refusal (refused_too bytes came a.input.left refusal r.came r.whole r.refused) (p.0, p.1, part_of a.output.held _ p.0 p.2)
    by_text (OfRun mode is script comes done text) = by_mode mode (same_mode words mode asked is) comes text
      where
        by_mode : (m : Mode) → Replay ≡ m → Rattle.ctss_modes.specs.Modes.Comes m (seen (source bytes reads) (sink room puts) old) (seen a.input a.output new) script
            → cut.text ≡ Rattle.ctss_modes.specs.Modes.text_for m script a.outcome.run → IsCutShort bytes old new a
        by_mode m e comes text =
            let c = subst (λ (m : Mode). Rattle.ctss_modes.specs.Modes.Comes m (seen (source bytes reads) (sink room puts) old) (seen a.input a.output new) script) (sym e) comes in
            let t = text ∙ ap (λ (m : Mode). Rattle.ctss_modes.specs.Modes.text_for m script a.outcome.run) (sym e) in
            let is = done.record_is (shows old ready) in
            let whole = t ∙ ap (λ (r : Record). report_of script r false) is in
            let p = subst (λ (t : List ℕ). (n : ℕ) × (n < length t) × (Some a.output.held ≡ Some ([] ++ take n t))) whole cut.part in
            ReportCut script (spelled bytes a.input.left script c) (p.0, p.1, part_of a.output.held _ p.0 p.2) is done.counted
    by_text (OfCards is run text) = absurd (let e = sym is ∙ asked in cc)

-- causes, and the statuses that may come
pub has_cause : (bytes reads puts : List ℕ) (room : ℕ) (old new : Machine) (a : Answered)
    → HasCauseOf (seen (source bytes reads) (sink room puts) old) (seen a.input a.output new) a.outcome → HasCause old new a
has_cause bytes reads puts room old new a h = record { reading = h.reading; writing = h.writing; drum = h.drum; disk = h.disk }

pub is_as_asked : (words : List (List ℕ)) (bytes reads puts : List ℕ) (room : ℕ) (old new : Machine) (a : Answered) → mode_of words ≡ Some Replay
    → IsAllowed words (seen (source bytes reads) (sink room puts) old) a.outcome
    → (NothingFailedOf (seen (source bytes reads) (sink room puts) old) (seen a.input a.output new) → IsComplete words (seen (source bytes reads) (sink room puts) old) a.outcome)
    → IsAsAsked bytes old new a
is_as_asked words bytes reads puts room old new a asked allowed complete =
    let by = subst (λ (m : Option Mode). IsOneOf a.outcome.status (statuses_of m bytes)) asked allowed.by_bytes in
    record {
      script = λ script read. subst (λ r. IsOneOf a.outcome.status (statuses_for r)) read by;
      refusal = λ refusal refused. subst (λ r. IsOneOf a.outcome.status (statuses_for r)) refused by;
      whole = λ none.
          subst (λ (m : Option Mode). IsOneOf a.outcome.status (status_due m bytes ∷ 8 ∷ [])) asked
          (complete (record { input = none.input; output = none.output; drum = none.drum; disk = none.disk; link = none.link })).by_bytes;
    }

-- the same of a source and a sink that are what they were made
module _ (words : List (List ℕ)) (bytes reads puts : List ℕ) (room : ℕ) (old new : Machine) (a : Answered) (input : SourceState) (output : SinkState)
    (input_is : input ≡ source bytes reads) (output_is : output ≡ sink room puts) where
  made : (P : DevicesSeen → Type 0) → P (seen input output old) → P (seen (source bytes reads) (sink room puts) old)
  made P h = of_made input (source bytes reads) output (sink room puts) (λ i o. P (seen i o old)) input_is output_is h

  pub replay_done : IsReady old → IsRun Replay (seen input output old) (seen a.input a.output new) a.outcome → IsReplayed bytes old new a
  replay_done ready run = is_replayed bytes reads puts room old new a ready (made (λ d. IsRun Replay d (seen a.input a.output new) a.outcome) run)

  pub replay_refused : mode_of words ≡ Some Replay → IsRefusal words (seen input output old) (seen a.input a.output new) a.outcome → a.outcome.status ≡ 2 → IsRefused bytes old new a
  replay_refused asked refusal two = is_refused words bytes reads puts room old new a asked (made (λ d. IsRefusal words d (seen a.input a.output new) a.outcome) refusal) two

  pub replay_stopped : StoppedRunsAreBeginnings → IsReady old → mode_of words ≡ Some Replay → RunIsStopped words (seen input output old) (seen a.input a.output new) a.outcome → HasStopped bytes old new a
  replay_stopped law ready asked run = has_stopped law words bytes reads puts room old new a ready asked (made (λ d. RunIsStopped words d (seen a.input a.output new) a.outcome) run)

  pub replay_lost : StoppedRunsAreBeginnings → IsReady old → mode_of words ≡ Some Replay → RunLosesFiles words (seen input output old) (seen a.input a.output new) a.outcome → HasLostFiles bytes old new a
  replay_lost law ready asked run = has_lost law words bytes reads puts room old new a ready asked (made (λ d. RunLosesFiles words d (seen a.input a.output new) a.outcome) run)

  pub replay_cut : IsReady old → mode_of words ≡ Some Replay → IsCutOff words (seen input output old) (seen a.input a.output new) a.outcome → IsCutShort bytes old new a
  replay_cut ready asked cut = is_cut_short words bytes reads puts room old new a ready asked (made (λ d. IsCutOff words d (seen a.input a.output new) a.outcome) cut)

  pub replay_silent : StoppedRunsAreBeginnings → IsReady old → mode_of words ≡ Some Replay
      → (IsOneOf a.outcome.status (3 ∷ 7 ∷ 8 ∷ []) → IsSilentOutcome a.outcome.status (seen input output old) (seen a.input a.output new) a.outcome)
      → (IsOneOf a.outcome.status (7 ∷ 8 ∷ []) → (m : Mode) → mode_of words ≡ Some m → SpendsFor m (seen input output old) (seen a.input a.output new))
      → IsSilent bytes old new a
  replay_silent law ready asked silent spent =
      is_silent law words bytes reads puts room old new a ready asked (λ h. made (λ d. IsSilentOutcome a.outcome.status d (seen a.input a.output new) a.outcome) (silent h))
      (λ h m is. made (λ d. SpendsFor m d (seen a.input a.output new)) (spent h m is))
