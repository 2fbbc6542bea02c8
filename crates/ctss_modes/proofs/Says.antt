-- What follows from what was read and written.
use Rattle.std.proofs.Common.{◌≡◌, ℕ, ◌*◌, ◌≤◌, Bool, true, false, ◌||◌, nat_eq, nat_le, List, [], ◌∷◌, ◌++◌, length, Option, Some, None, Ok, Err, refl, sym, ap, subst, ◌∙◌, append-nil, arith}
use Rattle.std.specs.List.{list_any}
use Rattle.std.specs.declared.result.Result.{Result}
use Rattle.std.proofs.lemmas.Bool.Decides.{nat_tests}
use Rattle.faults.specs.Faults.{WhereTold}
use Rattle.ctss_types.specs.declared.script.Script.{Script}
use Rattle.ctss_types.specs.declared.script.Timed.{Timed}
use Rattle.ctss_types.specs.declared.history.Record.{Record}
use Rattle.ctss_io.specs.Outside.{prepended, after, IsAtEnd}
use Rattle.ctss_io.specs.Whole.{ShrankBy, HasAtLeast, GrewByProperPrefix}
use Rattle.text_model.specs.declared.mode.Mode.{Mode}
use Rattle.text_model.specs.declared.mode.Mode.TheVariants.{Replay, Dump, Load, Asm, Serve}
use Rattle.text_model.specs.declared.cause.ScriptCause.TheVariants.{TooLong}
use Rattle.text_model.specs.declared.cause.ScriptRefusal.{ScriptRefusal}
use Rattle.text_model.specs.Causes.{cause_number}
use Rattle.text_model.specs.Words.{mode_of, script_refused}
use Rattle.text_model.specs.Reading.{script_of, max_bytes}
use Rattle.script_read.specs.Bases.{base_of}
use Rattle.system_model.specs.Record.{EachIsAlone, IsOneList}
use Rattle.system_model.proofs.AloneLaws.{users_are_alone, commons_are_one}
use Rattle.live_run.specs.Parts.{live_script}
use Rattle.live_serve.specs.Talks.{IsTalk}
use Rattle.live_serve.specs.declared.ending.Served.{Served}
use Rattle.live_serve.specs.declared.ending.Served.TheVariants.{Done, DrumFailed, DiskFailed}
use Rattle.live_serve.specs.Live.{IsServed, IsLiveRecord, IsStopped as LiveIsStopped, IsLost as LiveIsLost, HasSpent as HasLiveSpent, BehindTurns}
use Rattle.live_run.specs.Beginnings.{IsBeginning}
use Rattle.console_link.specs.Links.{LinkSeen}
use Rattle.live_run.specs.Media.{MediaSeen}
use Rattle.ctss_modes.specs.declared.outcome.Outcome.{Outcome}
use Rattle.ctss_modes.specs.Outcomes.{bare, failed}
use Rattle.ctss_modes.specs.Devices.{DevicesSeen}
use Rattle.ctss_modes.specs.Played.{IsDone, IsCut, IsLost, HasSpent, InSteps}
use Rattle.ctss_modes.specs.Modes.{runs_script, reads_script, replays, serves, script_for, Comes, IsSpelled, IsRefused, text_for}
use Rattle.ctss_modes.specs.Top.{IsRun, RunIsStopped, ScriptIsStopped, StopsFor, RunLosesFiles, ScriptLosesFiles, LosesFor, ScriptIsRefused, OfRefusal, OfRun, IsCutOff, ScriptSpends, Unbegun, Begun, SpendsFor, statuses_for, statuses_live}

-- a list with one more behind its first
one_more_said : (a n rest : Bool) → (a || rest) ≡ true → (a || (n || rest)) ≡ true
one_more_said true n rest h = refl
one_more_said false true rest h = refl
one_more_said false false rest h = h

refused_status : (status : ℕ) → list_any (nat_eq status) (2 ∷ 4 ∷ 8 ∷ []) ≡ true → list_any (nat_eq status) (2 ∷ 3 ∷ 4 ∷ 8 ∷ []) ≡ true
refused_status status h = one_more_said (nat_eq status 2) (nat_eq status 3) (list_any (nat_eq status) (4 ∷ 8 ∷ [])) h

too_many : (bytes : List ℕ) → 4194305 ≤ length bytes → nat_le (length bytes) max_bytes ≡ false
too_many bytes h = grind (arith, nat_tests)

-- a text that is too long is refused as a whole
abbrev pub too_long : ScriptRefusal
too_long = record { card = 0; cause = TooLong }

pub long_is_refused : (bytes : List ℕ) → 4194305 ≤ length bytes → script_of bytes ≡ Err too_long
unfolding script_of
long_is_refused bytes h = rw (too_many bytes h) refl

pub long_base_is_refused : (bytes : List ℕ) → 4194305 ≤ length bytes → base_of bytes ≡ Err too_long
unfolding base_of
long_base_is_refused bytes h = rw (too_many bytes h) refl

long_for : (mode : Mode) (bytes : List ℕ) → 4194305 ≤ length bytes → script_for mode bytes ≡ Err too_long
long_for Replay bytes h = long_is_refused bytes h
long_for Dump bytes h = long_is_refused bytes h
long_for (Load n) bytes h = long_is_refused bytes h
long_for Asm bytes h = long_is_refused bytes h
long_for (Serve port turns) bytes h = long_base_is_refused bytes h

-- where all events are read with the script, the bytes spell it
pub replays_script : (mode : Mode) → replays mode ≡ true → (bytes : List ℕ) → script_for mode bytes ≡ script_of bytes
replays_script Replay is bytes = refl
replays_script Dump is bytes = refl
replays_script (Load n) is bytes = cc
replays_script Asm is bytes = cc
replays_script (Serve port turns) is bytes = cc

pub replays_reads : (mode : Mode) → replays mode ≡ true → reads_script mode ≡ true
replays_reads Replay is = refl
replays_reads Dump is = refl
replays_reads (Load n) is = is
replays_reads Asm is = is
replays_reads (Serve port turns) is = refl

long_read : (mode : Mode) (left rest : Option (List ℕ)) (bytes : List ℕ) → length bytes ≡ 4194305 → left ≡ prepended bytes rest → IsRefused mode left rest bytes too_long
long_read mode left rest bytes size came =
    record { came = came; whole = λ h. absurd (omega (arith, size, h)); refused = long_for mode bytes (omega (arith, size)) }

pub refused_long : (mode : Mode) (old new : DevicesSeen) (o : Outcome) → ShrankBy 4194305 old.input.left new.input.left → o ≡ bare 2 0 8 → new.output.held ≡ after old.output.held (script_refused 0 8) → new.media ≡ old.media → new.link ≡ old.link → ScriptIsRefused mode old new o
refused_long mode old new o gone is written drum link =
    record { bytes = gone.0; refusal = too_long; read = long_read mode old.input.left new.input.left gone.0 gone.1 gone.2; outcome = is; written = written; media = drum; link = link }

pub refused_short : (mode : Mode) (old new : DevicesSeen) (o : Outcome) (bytes : List ℕ) (refusal : ScriptRefusal) (number : ℕ) → old.input.left ≡ prepended bytes new.input.left → IsAtEnd new.input.left → script_for mode bytes ≡ Err refusal
    → number ≡ cause_number refusal.cause → o ≡ bare 2 refusal.card number → new.output.held ≡ after old.output.held (script_refused refusal.card number) → new.media ≡ old.media → new.link ≡ old.link → ScriptIsRefused mode old new o
refused_short mode old new o bytes refusal number came whole refused why is written drum link =
    record {
      bytes = bytes;
      refusal = refusal;
      read = record { came = came; whole = λ h. whole; refused = refused };
      outcome = is ∙ ap (bare 2 refusal.card) why;
      written = written ∙ ap (λ (n : ℕ). after old.output.held (script_refused refusal.card n)) why;
      media = drum;
      link = link;
    }

-- a refusal that was cut off
cut_refusal : (words : List (List ℕ)) (mode : Mode) → mode_of words ≡ Some mode → reads_script mode ≡ true → (old new : DevicesSeen) (o : Outcome) (bytes : List ℕ) (refusal : ScriptRefusal)
    → IsRefused mode old.input.left new.input.left bytes refusal → o ≡ bare 4 0 0 → GrewByProperPrefix old.output.held (script_refused refusal.card (cause_number refusal.cause)) new.output.held → new.media ≡ old.media → new.link ≡ old.link
    → IsCutOff words old new o
cut_refusal words mode asked reads old new o bytes refusal read is part drum link =
    record {
      text = script_refused refusal.card (cause_number refusal.cause);
      said = OfRefusal mode asked reads bytes refusal read drum link (ap (λ (x : Outcome). x.run) is) refl;
      part = part;
      card = ap (λ (x : Outcome). x.card) is;
      cause = ap (λ (x : Outcome). x.cause) is;
    }

pub cut_long : (words : List (List ℕ)) (mode : Mode) → mode_of words ≡ Some mode → reads_script mode ≡ true → (old new : DevicesSeen) (o : Outcome)
    → ShrankBy 4194305 old.input.left new.input.left → o ≡ bare 4 0 0 → GrewByProperPrefix old.output.held (script_refused 0 8) new.output.held → new.media ≡ old.media → new.link ≡ old.link
    → IsCutOff words old new o
cut_long words mode asked reads old new o gone is part drum link =
    cut_refusal words mode asked reads old new o gone.0 too_long (long_read mode old.input.left new.input.left gone.0 gone.1 gone.2) is part drum link

pub cut_short : (words : List (List ℕ)) (mode : Mode) → mode_of words ≡ Some mode → reads_script mode ≡ true → (old new : DevicesSeen) (o : Outcome) (bytes : List ℕ) (refusal : ScriptRefusal) (number : ℕ)
    → old.input.left ≡ prepended bytes new.input.left → IsAtEnd new.input.left → script_for mode bytes ≡ Err refusal → number ≡ cause_number refusal.cause → o ≡ bare 4 0 0 → GrewByProperPrefix old.output.held (script_refused refusal.card number) new.output.held → new.media ≡ old.media
    → new.link ≡ old.link → IsCutOff words old new o
cut_short words mode asked reads old new o bytes refusal number came whole refused why is part drum link =
    cut_refusal words mode asked reads old new o bytes refusal (record { came = came; whole = λ h. whole; refused = refused }) is
    (subst (λ (n : ℕ). GrewByProperPrefix old.output.held (script_refused refusal.card n) new.output.held) why part) drum link

spelled : (mode : Mode) (left rest : Option (List ℕ)) (bytes : List ℕ) (script : Script) → left ≡ prepended bytes rest → IsAtEnd rest → script_for mode bytes ≡ Ok script → IsSpelled mode left rest script
spelled mode left rest bytes script came whole is = record { bytes = bytes; came = came; whole = whole; spelled = is }

-- the script of bytes that came, in a mode that reads all events with it
pub comes_read : (mode : Mode) → replays mode ≡ true → (old new : DevicesSeen) (bytes : List ℕ) (script : Script) → old.input.left ≡ prepended bytes new.input.left → IsAtEnd new.input.left → script_of bytes ≡ Ok script → Comes mode old new script
comes_read Replay is old new bytes script came whole read = spelled Replay old.input.left new.input.left bytes script came whole read
comes_read Dump is old new bytes script came whole read = spelled Dump old.input.left new.input.left bytes script came whole read
comes_read (Load n) is old new bytes script came whole read = cc
comes_read Asm is old new bytes script came whole read = cc
comes_read (Serve port turns) is old new bytes script came whole read = cc

-- a mode that reads all events with a script runs it
pub replays_runs : (mode : Mode) → replays mode ≡ true → runs_script mode ≡ true
replays_runs Replay is = refl
replays_runs Dump is = refl
replays_runs (Load n) is = refl
replays_runs Asm is = is
replays_runs (Serve port turns) is = refl

pub is_run : (mode : Mode) (old new : DevicesSeen) (o : Outcome) (script : Script) → Comes mode old new script
    → IsDone script old.media new.media o.run → (o.card ≡ 0) × (o.cause ≡ 0) → new.output.held ≡ after old.output.held (text_for mode script o.run) → IsRun mode old new o
is_run mode old new o script comes done numbers written =
    record {
      script = script;
      comes = comes;
      written = written;
      run = done.record_is;
      alone = λ t. subst (EachIsAlone script) (sym (done.record_is t)) (users_are_alone script);
      shared = λ t. subst (IsOneList script) (sym (done.record_is t)) (commons_are_one script);
      counted = done.counted;
      lie = done.lie;
      card = numbers.0;
      cause = numbers.1;
    }

pub cut_run : (words : List (List ℕ)) (mode : Mode) → mode_of words ≡ Some mode → (old new : DevicesSeen) (o : Outcome) (script : Script) → Comes mode old new script
    → IsDone script old.media new.media o.run → (o.card ≡ 0) × (o.cause ≡ 0) → GrewByProperPrefix old.output.held (text_for mode script o.run) new.output.held → IsCutOff words old new o
cut_run words mode asked old new o script comes done numbers part =
    record {
      text = text_for mode script o.run;
      said = OfRun mode asked script comes done refl;
      part = part;
      card = numbers.0;
      cause = numbers.1;
    }

stops_for : (mode : Mode) → serves mode ≡ false → (old new : DevicesSeen) (o : Outcome) → ScriptIsStopped mode old new o → StopsFor mode old new o
stops_for Replay is old new o s = s
stops_for Dump is old new o s = s
stops_for (Load n) is old new o s = s
stops_for Asm is old new o s = s.comes
stops_for (Serve port turns) is old new o s = cc

pub replays_alone : (mode : Mode) → replays mode ≡ true → serves mode ≡ false
replays_alone Replay is = refl
replays_alone Dump is = refl
replays_alone (Load n) is = refl
replays_alone Asm is = refl
replays_alone (Serve port turns) is = sym is

pub is_stopped : (words : List (List ℕ)) (mode : Mode) → serves mode ≡ false → (old new : DevicesSeen) (o : Outcome) (script : Script) → mode_of words ≡ Some mode → Comes mode old new script
    → new.output.held ≡ old.output.held → IsCut script old.media new.media o.run → (o.card ≡ 0) × (o.cause ≡ 0) → RunIsStopped words old new o
is_stopped words mode alone old new o script asked comes silent stopped numbers =
    record {
      mode = mode;
      asked = asked;
      stopped = stops_for mode alone old new o (record { script = script; comes = comes; stopped = stopped });
      silent = silent;
      card = numbers.0;
      cause = numbers.1;
    }

loses_for : (mode : Mode) → serves mode ≡ false → (old new : DevicesSeen) (o : Outcome) → ScriptLosesFiles mode old new o → LosesFor mode old new o
loses_for Replay is old new o s = s
loses_for Dump is old new o s = s
loses_for (Load n) is old new o s = s
loses_for Asm is old new o s = s.comes
loses_for (Serve port turns) is old new o s = cc

pub is_lost : (words : List (List ℕ)) (mode : Mode) → serves mode ≡ false → (old new : DevicesSeen) (o : Outcome) (script : Script) → mode_of words ≡ Some mode → Comes mode old new script
    → new.output.held ≡ old.output.held → IsLost script old.media new.media o.run → (o.card ≡ 0) × (o.cause ≡ 0) → RunLosesFiles words old new o
is_lost words mode alone old new o script asked comes silent lost numbers =
    record {
      mode = mode;
      asked = asked;
      loses = loses_for mode alone old new o (record { script = script; comes = comes; lost = lost });
      silent = silent;
      card = numbers.0;
      cause = numbers.1;
    }

-- live consoles

abbrev pub live_by : ℕ → Script → List Timed → Script
live_by turns base events = live_script base events (1000 * turns)

comes_live : (port turns : ℕ) (old new : DevicesSeen) (base : Script) (events : List Timed) → IsSpelled (Serve port turns) old.input.left new.input.left base → IsTalk base old.media.tells port turns events old.link new.link → Comes (Serve port turns) old new (live_by turns base events)
comes_live port turns old new base events spelled talk = record { base = base; events = events; spelled = spelled; talk = talk; script_is = refl }

done_live : (turns : ℕ) (old new : DevicesSeen) (base : Script) (events : List Timed) (rec run : Record) → IsLiveRecord base turns events old.media new.media rec → run ≡ rec → IsDone (live_by turns base events) old.media new.media run
done_live turns old new base events rec run live is =
    subst (IsDone (live_by turns base events) old.media new.media) (sym is) (record { record_is = live.record_is; counted = live.counted; lie = live.lie })

pub live_run : (port turns : ℕ) (old new : DevicesSeen) (o : Outcome) (base : Script) (events : List Timed) (rec : Record) → IsSpelled (Serve port turns) old.input.left new.input.left base
    → IsLiveRecord base turns events old.media new.media rec → IsTalk base old.media.tells port turns events old.link new.link → o.run ≡ rec → (o.card ≡ 0) × (o.cause ≡ 0)
    → new.output.held ≡ after old.output.held (text_for (Serve port turns) (live_by turns base events) o.run) → IsRun (Serve port turns) old new o
live_run port turns old new o base events rec spelled live talk is numbers written =
    is_run (Serve port turns) old new o (live_by turns base events) (comes_live port turns old new base events spelled talk) (done_live turns old new base events rec o.run live is) numbers written

pub live_cut : (words : List (List ℕ)) (port turns : ℕ) → mode_of words ≡ Some (Serve port turns) → (old new : DevicesSeen) (o : Outcome) (base : Script) (events : List Timed) (rec : Record) → IsSpelled (Serve port turns) old.input.left new.input.left base
    → IsLiveRecord base turns events old.media new.media rec → IsTalk base old.media.tells port turns events old.link new.link → o.run ≡ rec → (o.card ≡ 0) × (o.cause ≡ 0)
    → GrewByProperPrefix old.output.held (text_for (Serve port turns) (live_by turns base events) o.run) new.output.held → IsCutOff words old new o
live_cut words port turns asked old new o base events rec spelled live talk is numbers part =
    cut_run words (Serve port turns) asked old new o (live_by turns base events) (comes_live port turns old new base events spelled talk) (done_live turns old new base events rec o.run live is) numbers part

pub live_stopped : (words : List (List ℕ)) (port turns : ℕ) → mode_of words ≡ Some (Serve port turns) → (old new : DevicesSeen) (o : Outcome) (base : Script) (rec : Record) → IsSpelled (Serve port turns) old.input.left new.input.left base
    → new.output.held ≡ old.output.held → LiveIsStopped base port turns old.media new.media old.link new.link rec → o ≡ failed 5 rec → RunIsStopped words old new o
live_stopped words port turns asked old new o base rec spelled silent stopped is =
    subst (RunIsStopped words old new) (sym is)
    (record { mode = Serve port turns; asked = asked; stopped = record { base = base; spelled = spelled; stopped = stopped }; silent = silent; card = refl; cause = refl })

pub live_lost : (words : List (List ℕ)) (port turns : ℕ) → mode_of words ≡ Some (Serve port turns) → (old new : DevicesSeen) (o : Outcome) (base : Script) (rec : Record) → IsSpelled (Serve port turns) old.input.left new.input.left base
    → new.output.held ≡ old.output.held → LiveIsLost base port turns old.media new.media old.link new.link rec → o ≡ failed 6 rec → RunLosesFiles words old new o
live_lost words port turns asked old new o base rec spelled silent lost is =
    subst (RunLosesFiles words old new) (sym is)
    (record { mode = Serve port turns; asked = asked; loses = record { base = base; spelled = spelled; lost = lost }; silent = silent; card = refl; cause = refl })

-- no record came

spends_for : (mode : Mode) → serves mode ≡ false → runs_script mode ≡ true → (old new : DevicesSeen) → ScriptSpends mode old new → SpendsFor mode old new
spends_for Replay alone runs old new s = s
spends_for Dump alone runs old new s = s
spends_for (Load n) alone runs old new s = s
spends_for Asm alone runs old new s = cc
spends_for (Serve port turns) alone runs old new s = cc

pub unbegun : (mode : Mode) → serves mode ≡ false → runs_script mode ≡ true → (old new : DevicesSeen) → new.media.drum_calls ≡ old.media.drum_calls → new.link ≡ old.link → SpendsFor mode old new
unbegun mode alone runs old new drum link = spends_for mode alone runs old new (Unbegun drum link)

pub script_spends : (mode : Mode) → serves mode ≡ false → runs_script mode ≡ true → (old new : DevicesSeen) (script : Script) → Comes mode old new script → HasSpent script old.media new.media → SpendsFor mode old new
script_spends mode alone runs old new script comes spent = spends_for mode alone runs old new (Begun script comes spent)

-- a record came, and memory lacked behind it
pub spent_when_done : (script : Script) (was now : MediaSeen) (rec : Record) → IsDone script was now rec → HasSpent script was now
spent_when_done script was now rec done = InSteps rec.entries done.counted (λ told. subst (λ (r : Record). IsBeginning rec.entries r.entries) (done.record_is told) ([], sym (append-nil rec.entries)))

pub live_spent_when_done : (base : Script) (port turns : ℕ) (was now : MediaSeen) (a b : LinkSeen) (events : List Timed) (rec : Record) → IsLiveRecord base turns events was now rec × IsTalk base was.tells port turns events a b
    → HasLiveSpent base port turns was now a b
live_spent_when_done base port turns was now a b events rec done =
    BehindTurns events done.1 rec.entries done.0.counted (λ told. subst (λ (r : Record). IsBeginning rec.entries r.entries) (done.0.record_is told) ([], sym (append-nil rec.entries)))

-- what is true of all bytes that came is true of those that were told
pub of_told : (left rest : Option (List ℕ)) (bytes : List ℕ) (P : List ℕ → Type 0) → left ≡ prepended bytes rest → IsAtEnd rest → P bytes → WhereTold left P
of_told left None bytes P came whole h = subst (λ (l : Option (List ℕ)). WhereTold l P) (sym came) tt
of_told left (Some rest) bytes P came whole h =
    let all : bytes ++ rest ≡ bytes = ap (λ (r : List ℕ). bytes ++ r) whole ∙ append-nil bytes in
    subst (λ (l : Option (List ℕ)). WhereTold l P) (sym came) (subst P (sym all) h)

abbrev pub Allows : ℕ → List ℕ → Type 0
Allows status bytes = list_any (nat_eq status) (statuses_for (script_of bytes)) ≡ true

pub told_long : (left : Option (List ℕ)) (status : ℕ) → HasAtLeast 4194305 left → list_any (nat_eq status) (2 ∷ 4 ∷ 8 ∷ []) ≡ true → WhereTold left (Allows status)
told_long None status h is = tt
told_long (Some bytes) status h is = rw (long_is_refused bytes h) (refused_status status is)

pub by_said : (status : ℕ) → ((said : Result Script ScriptRefusal) → list_any (nat_eq status) (statuses_for said) ≡ true) → (left : Option (List ℕ)) → WhereTold left (Allows status)
by_said status h None = tt
by_said status h (Some bytes) = h (script_of bytes)

pub told_no_memory : (left : Option (List ℕ)) → WhereTold left (Allows 8)
told_no_memory left = by_said 8 (λ said. at_8 said) left
  where
    at_8 : (said : Result Script ScriptRefusal) → list_any (nat_eq 8) (statuses_for said) ≡ true
    at_8 (Err r) = refl
    at_8 (Ok s) = refl

-- the same of a base script

abbrev pub AllowsLive : ℕ → List ℕ → Type 0
AllowsLive status bytes = list_any (nat_eq status) (statuses_live (base_of bytes)) ≡ true

pub live_told_long : (left : Option (List ℕ)) (status : ℕ) → HasAtLeast 4194305 left → list_any (nat_eq status) (2 ∷ 4 ∷ 8 ∷ []) ≡ true → WhereTold left (AllowsLive status)
live_told_long None status h is = tt
live_told_long (Some bytes) status h is = rw (long_base_is_refused bytes h) (refused_status status is)

pub by_base : (status : ℕ) → ((said : Result Script ScriptRefusal) → list_any (nat_eq status) (statuses_live said) ≡ true) → (left : Option (List ℕ)) → WhereTold left (AllowsLive status)
by_base status h None = tt
by_base status h (Some bytes) = h (base_of bytes)

pub live_told_no_memory : (left : Option (List ℕ)) → WhereTold left (AllowsLive 8)
live_told_no_memory left = by_base 8 (λ said. at_8 said) left
  where
    at_8 : (said : Result Script ScriptRefusal) → list_any (nat_eq 8) (statuses_live said) ≡ true
    at_8 (Err r) = refl
    at_8 (Ok s) = refl

-- what was served, by how it ended

module _ (base : Script) (port turns : ℕ) (was now : MediaSeen) (a b : LinkSeen) (s : Served) (is_served : IsServed base port turns was now a b s) where
  pub all_served : (events : List Timed) (rec : Record) → s ≡ Done events rec → IsLiveRecord base turns events was now rec × IsTalk base was.tells port turns events a b
  all_served events rec is = subst (λ (x : Served). IsServed base port turns was now a b x) is is_served

  pub drum_ended : (rec : Record) → s ≡ DrumFailed rec → LiveIsStopped base port turns was now a b rec
  drum_ended rec is = subst (λ (x : Served). IsServed base port turns was now a b x) is is_served

  pub disk_ended : (rec : Record) → s ≡ DiskFailed rec → LiveIsLost base port turns was now a b rec
  disk_ended rec is = subst (λ (x : Served). IsServed base port turns was now a b x) is is_served
