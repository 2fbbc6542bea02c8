-- claim: what the consoles show in a run to which events are given while it goes on, and in a script's run.
use Rattle.std.specs.Prelude.{◌≡◌, ℕ, ◌≤◌, true, List, [], ◌∷◌}
use Rattle.ctss_types.specs.declared.script.Script.{Script}
use Rattle.ctss_types.specs.declared.script.Timed.{Timed}
use Rattle.time_sharing.specs.Record.{AreLate}
use Rattle.system_model.specs.Run.{Run, run_to, with_all_events}
use Rattle.system_model.specs.Record.{start_of}
use Rattle.console_texts.specs.Watching.{texts_to}
use Rattle.supervisor.specs.Whole.{Whole}
use Rattle.live_run.specs.Calls.{Follows, run_over}
use Rattle.live_run.specs.Parts.{Part, AreInOrder, all_events, live_script, calls_of}

-- A run to a limit, then events that don't come before it, then a longer run: the consoles show what they show where all events were
-- there from the beginning.
abbrev pub TextsInParts : Type 0
TextsInParts =
    (events : List Timed) (j k : ℕ) (r : Run) (texts : List (List ℕ)) → j ≤ k → AreLate j events →
    texts_to k (with_all_events events (run_to j r)) (texts_to j r texts) ≡ texts_to k (with_all_events events r) texts

-- Such events change nothing that is shown before the limit.
abbrev pub LateEventsShowNothing : Type 0
LateEventsShowNothing =
    (events : List Timed) (limit : ℕ) (r : Run) (texts : List (List ℕ)) → AreLate limit events →
    texts_to limit (with_all_events events r) texts ≡ texts_to limit r texts

-- the texts after a run in these parts
abbrev pub texts_in : List Part → Run → List (List ℕ) → List (List ℕ)
texts_in [] r texts = texts
texts_in (p ∷ parts) r texts = texts_in parts (run_to p.limit (with_all_events p.events r)) (texts_to p.limit (with_all_events p.events r) texts)

-- What the consoles show in a run in parts they show in that of the script with all events.
abbrev pub LiveTextsAreReplayed : Type 0
LiveTextsAreReplayed =
    (base : Script) (parts : List Part) (last : ℕ) (texts : List (List ℕ)) → AreInOrder 0 last parts →
    texts_in parts (start_of (record base { events = [] })) texts ≡ texts_to last (start_of (live_script base (all_events parts) last)) texts

-- After such calls, none of which met a fault, a supervisor's consoles show what they show in the run in these parts; where drum and
-- disk tell their records.
abbrev pub CallsShowTexts : Type 0
CallsShowTexts =
    (parts : List Part) (old new : Whole) → old.back.held.tells ≡ true → Follows (calls_of parts) old new →
    new.bare.texts ≡ texts_in parts (run_over old) old.bare.texts
