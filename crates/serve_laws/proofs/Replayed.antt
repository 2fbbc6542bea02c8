-- Replay of the first part of what live consoles wrote gives the second part.
use Rattle.std.proofs.Common.{◌≡◌, ℕ, ◌≤◌, Bool, true, false, List, ◌++◌, length, Option, Some, None, Ok, sym, ap, subst, ◌∙◌, append-nil}
use Rattle.ctss_types.specs.declared.script.Script.{Script}
use Rattle.ctss_types.specs.declared.history.Record.{Record}
use Rattle.ctss_io.specs.Outside.{prepended, after, IsAtEnd}
use Rattle.text_model.specs.declared.mode.Mode.TheVariants.{Replay}
use Rattle.text_model.specs.Canonical.{script_text_of}
use Rattle.text_model.specs.Reading.{script_of, max_bytes}
use Rattle.text_model.specs.Report.{report_of}
use Rattle.system_model.specs.Record.{record_of}
use Rattle.ctss_modes.specs.declared.outcome.Outcome.{Outcome}
use Rattle.ctss_modes.specs.Devices.{DevicesSeen}
use Rattle.ctss_modes.specs.Modes.{IsSpelled}
use Rattle.ctss_modes.specs.Top.{IsRun}
use Rattle.serve_laws.specs.Laws.{IsReplayed, LiveRunsAreReplayed}
use Rattle.serve_laws.proofs.Lawful.{live_scripts_are_read}

-- bytes that came and were all are the text that was there
whole_text : (bytes text : List ℕ) (rest : Option (List ℕ)) → Some text ≡ prepended bytes rest → IsAtEnd rest → bytes ≡ text
whole_text bytes text None came end = cc
whole_text bytes text (Some rest) came end =
    let all : text ≡ bytes ++ rest = cc in
    sym (all ∙ ap (λ (r : List ℕ). bytes ++ r) end ∙ append-nil bytes)

-- what replay reads is the script
script_is : (s r : Script) (left rest : Option (List ℕ)) → left ≡ Some (script_text_of s) → script_of (script_text_of s) ≡ Ok s → IsSpelled Replay left rest r → r ≡ s
script_is s r left rest is reads spelled =
    let bytes : spelled.bytes ≡ script_text_of s = whole_text spelled.bytes (script_text_of s) rest (sym is ∙ spelled.came) spelled.whole in
    let read : Ok r ≡ Ok s = sym spelled.spelled ∙ ap script_of bytes ∙ reads in
    cc

pub live_runs_are_replayed : LiveRunsAreReplayed
live_runs_are_replayed port turns old new served few run =
    let script = run.script in
    let live = run.comes in
    let reads : length (script_text_of script) ≤ max_bytes → script_of (script_text_of script) ≡ Ok script =
    subst (λ (s : Script). length (script_text_of s) ≤ max_bytes → script_of (script_text_of s) ≡ Ok s) (sym live.script_is)
    (live_scripts_are_read live.spelled.bytes live.base old.media.tells port turns live.events old.link new.link live.spelled.spelled few live.talk) in (
      run.written,
      λ short. (
        reads short,
        λ was now again replay left. replayed script was now again replay left (reads short) old.media.tells served.run run.run,
      ),
    )
  where
    replayed : (script : Script) (was now : DevicesSeen) (again : Outcome) (replay : IsRun Replay was now again) → was.input.left ≡ Some (script_text_of script) → script_of (script_text_of script) ≡ Ok script
        → (told : Bool) (first : Record) → (told ≡ true → first ≡ record_of script) → IsReplayed script told first was now again replay
    replayed script was now again replay left reads told first is =
        let same : replay.script ≡ script = script_is script replay.script was.input.left now.input.left left reads replay.comes in
        let record_is : told ≡ true → was.media.tells ≡ true → again.run ≡ first = λ t u. replay.run u ∙ ap record_of same ∙ sym (is t) in
        record {
          script_is = same;
          same = record_is;
          written = λ t u. replay.written ∙ (λ j. after was.output.held (report_of (same j) (record_is t u j) false));
        }
