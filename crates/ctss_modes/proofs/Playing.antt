-- From the run of the supervisor over what lies behind its users to the record of a script.
use Rattle.std.proofs.Common.{◌≡◌, true, false, ℕ, List, [], ◌++◌, Option, Ok, Err, refl, sym, ap, subst, ◌∙◌, arith}
use Rattle.std.specs.Prelude.{OnOk, IfOk}
use Rattle.std.specs.declared.result.Result.{Result}
use Rattle.faults.specs.Faults.{Rose, WhereTold}
use Rattle.file_tracks.specs.Lying.{LieOn}
use Rattle.live_run.specs.Media.{MediaSeen}
use Rattle.supervisor.specs.Closes.{EndsComplete, EndsWithoutFiles}
use Rattle.ctss_types.specs.declared.fault.RunFault.{RunFault}
use Rattle.ctss_types.specs.declared.fault.RunFault.TheVariants.{Drum, Disk, NoMemory}
use Rattle.ctss_types.specs.declared.script.Script.{Script}
use Rattle.ctss_types.specs.declared.history.Record.{Record}
use Rattle.user_model.specs.Inner.{Stored}
use Rattle.plan_model.specs.Loads.{no_places}
use Rattle.system_model.specs.Run.{Run, run_to, AfterSteps, ended}
use Rattle.system_model.specs.Joined.{joined}
use Rattle.system_model.specs.Record.{start_of, record_of, record_from}
use Rattle.medium.specs.Medium.{CallList}
use Rattle.time_sharing.specs.System.{Entry}
use Rattle.supervisor.specs.Seen.{run_with, record_so_far, without_files}
use Rattle.supervisor.specs.Counts.{IsCounted, IsCountedToLoad, calls_to_load}
use Rattle.supervisor.specs.Steps.{StopsAtLoad, Lasts}
use Rattle.system_model.specs.Cases.{closed, end_notes, idle_notes}
use Rattle.system_model.proofs.CaseLaws.{closes}
use Rattle.supervisor.specs.Whole.{Whole, Agrees, run_apart, run_of}
use Rattle.user_cores.specs.Backing.{BackState}
use Rattle.live_run.specs.Calls.{run_over}
use Rattle.live_run.specs.declared.ending.Played.{Played}
use Rattle.live_run.specs.declared.ending.Played.TheVariants.{Done, DrumFailed, DiskFailed}
use Rattle.live_run.specs.Finishes.{Finishes, IfDone, OnTheWay, BehindTheEnd}
use Rattle.supervisor.proofs.Counting.{counted_same}
use Rattle.live_run.specs.Beginnings.{IsBeginning}
use Rattle.live_run.proofs.Beginnings.{stopped_runs_are_beginnings}
use Rattle.live_run.proofs.Records.{counted_at_end, ends_joined}
use Rattle.live_serve.specs.Live.{HasNoFiles}
use Rattle.ctss_modes.specs.Played.{IsDone, IsCut, AtStart, InRun, AtEnd, IsLost, IsPlayed, HasGone, IsScriptRun, Ran, NeverRan, NotGiven, HasSpent, InSteps, AtLoad}

record_is : (script : Script) → record_from (ended (run_to script.end (start_of script))) ≡ record_of script
unfolding record_of
record_is script = refl

entries_joined : (f : ℕ → Stored) (r : Run) → (joined f r).system.entries ≡ r.system.entries
unfolding joined
entries_joined f r = refl

-- an ended run's schedule has more at its end
ended_begins : (f : ℕ → Stored) (r : Run) → IsBeginning r.system.entries (record_from (ended (joined f r))).entries
unfolding joined closed
ended_begins f r = (end_notes r.system.service ++ idle_notes r.system.idling r.system.clock, ap (λ (q : Run). q.system.entries) (closes (joined f r)))

none_at_start : (script : Script) → (start_of script).system.entries ≡ []
unfolding start_of
none_at_start script = refl

module _ (script : Script) (was : MediaSeen) (s : Whole) where
  -- the record so far has no files
  no_files : (rec : Record) → rec ≡ record_so_far (run_apart s) → HasNoFiles rec
  no_files rec is = record { own = ap (λ (r : Record). r.files) is; common = ap (λ (r : Record). r.common) is }

  -- a run that ended so
  pub run_as : (r q : Result Unit RunFault) → r ≡ q → IsScriptRun script was r s → IsScriptRun script was q s
  run_as r q is h = subst (λ (x : Result Unit RunFault). IsScriptRun script was x s) is h

  pub run_failed : (r : Result Unit RunFault) (f g : RunFault) → r ≡ Err f → f ≡ g → IsScriptRun script was r s → IsScriptRun script was (Err g) s
  run_failed r f g is same h = subst (λ (x : RunFault). IsScriptRun script was (Err x) s) same (run_as r (Err f) is h)

  gone : (x : Unit) → IsScriptRun script was (Ok x) s → HasGone script was (Ok x) s
  gone x (Ran h) = h
  gone x (NeverRan h) = absurd (let e = h.ended in cc)
  gone x (NotGiven h) = absurd (let e = h.ended in cc)

  gone_to_load : IsScriptRun script was (Err Drum) s → HasGone script was (Err Drum) s
  gone_to_load (Ran h) = h
  gone_to_load (NeverRan h) = absurd (let e = h.ended in cc)
  gone_to_load (NotGiven h) = absurd (let e = h.ended in cc)

  -- the run to the script's end
  ends_as : (x : Unit) → HasGone script was (Ok x) s → was.tells ≡ true → record_from (ended (run_over s)) ≡ record_of script
  ends_as x h told = ap (λ (r : Run). record_from (ended r)) (h.ran.ended (h.tells ∙ told) ∙ ap (run_to script.end) (h.begun told)) ∙ record_is script

  module _ (now : MediaSeen) where
    -- the script's end was reached
    pub done : (x : Unit) → IsScriptRun script was (Ok x) s → s.back.calls ≡ now.drum_calls → (rec : Record) → EndsComplete s.bare s.back.held rec
        → WhereTold now.disk_contents (λ contents. LieOn contents rec.files rec.common) → IsDone script was now rec
    done x ran now_is rec ends lie =
        let h = gone x ran in
        record {
          record_is = λ told. ends.record_is (h.ran.tells ∙ h.tells ∙ told) s.back.held.places ∙ ends_as x h told;
          counted =
              subst (λ (es : List Entry). IsCounted [] es was.drum_calls now.drum_calls) (sym (ap (λ (r : Record). r.entries) (ends.said no_places)))
              (counted_at_end [] (run_apart s) was.drum_calls now.drum_calls
              (subst (λ (o : Option CallList). IsCounted [] s.bare.entries was.drum_calls o) now_is
              (subst (λ (o : Option CallList). IsCounted [] s.bare.entries o s.back.calls) h.calls (subst (λ (es : List Entry). IsCounted es s.bare.entries h.start.back.calls s.back.calls) h.entries h.ran.counted))));
          lie = lie;
        }

    -- so it was, and then the disk failed
    pub lost_at_end : (x : Unit) → IsScriptRun script was (Ok x) s → s.back.calls ≡ now.drum_calls → (has : ℕ) → has ≡ now.disk_faults → (rec : Record) → EndsWithoutFiles s.bare s.back.disk_faults has rec → IsLost script was now rec
    lost_at_end x ran now_is has is rec ends =
        let h = gone x ran in
        record {
          counted =
              subst (λ (es : List Entry). IsCounted [] es was.drum_calls now.drum_calls) (sym (ap (λ (r : Record). r.entries) (ends.said no_places)))
              (counted_at_end [] (run_apart s) was.drum_calls now.drum_calls
              (subst (λ (o : Option CallList). IsCounted [] s.bare.entries was.drum_calls o) now_is
              (subst (λ (o : Option CallList). IsCounted [] s.bare.entries o s.back.calls) h.calls (subst (λ (es : List Entry). IsCounted es s.bare.entries h.start.back.calls s.back.calls) h.entries h.ran.counted))));
          bare = record { own = ap (λ (r : Record). r.files) (ends.said no_places); common = ap (λ (r : Record). r.common) (ends.said no_places) };
          lacks = AtEnd (λ told. ends.said s.back.held.places ∙ ends_joined s.back.held.stores (run_with s.back.held.places s.bare) ∙ ap without_files (ends_as x h told));
          cause = (let a = h.disk in let b = h.ran.disk in let c = ends.cause in omega (arith, a, b, c, is));
        }

    -- the drum failed
    pub stopped : IsScriptRun script was (Err Drum) s → s.back.calls ≡ now.drum_calls → s.back.faults ≡ now.drum_faults → (rec : Record) → rec ≡ record_so_far (run_apart s) → IsCut script was now rec
    stopped ran now_is has rec is =
        let h = gone_to_load ran in
        record {
          stopped = λ told.
              (let t : StopsAtLoad script.end (run_over h.start) (run_apart s) h.start.back.calls s.back.calls = h.ran.ended.0 (h.tells ∙ told) in
              let most = calls_to_load t.load.due.user t.at in
              record {
                at = t.at;
                part = subst (λ (x : Run). AfterSteps script.end x t.at) (h.begun told) t.part;
                early = t.early;
                load = t.load;
                shown = is ∙ (λ j. record { entries = t.shown.entries j; transcripts = t.shown.transcripts j; files = []; common = []; clock = t.shown.clock j });
                counted =
                    subst (λ (es : List Entry). IsCountedToLoad [] es was.drum_calls now.drum_calls most) (sym (ap (λ (r : Record). r.entries) is))
                    (subst (λ (o : Option CallList). IsCountedToLoad [] s.bare.entries was.drum_calls o most) now_is
                    (subst (λ (o : Option CallList). IsCountedToLoad [] s.bare.entries o s.back.calls most) h.calls
                    (subst (λ (es : List Entry). IsCountedToLoad es s.bare.entries h.start.back.calls s.back.calls most)
                    (ap (λ (r : Run). r.system.entries) (h.begun told) ∙ none_at_start script) t.counted)));
              });
          bare = no_files rec is;
          cause = subst (λ (n : ℕ). Rose was.drum_faults n) has (subst (λ (n : ℕ). Rose n s.back.faults) h.drum h.ran.ended.1);
        }

    -- the disk failed, while first files were written or in the run
    pub lost : IsScriptRun script was (Err Disk) s → s.back.calls ≡ now.drum_calls → s.back.disk_faults ≡ now.disk_faults → (rec : Record) → rec ≡ record_so_far (run_apart s) → IsLost script was now rec
    lost (Ran h) now_is has rec is =
        record {
          lacks =
              InRun
              (λ told.
              let t = h.ran.ended.0 (h.tells ∙ told) in
              let shown = t.2 in
              record {
                at = t.0;
                part = subst (λ (x : Run). AfterSteps script.end x t.0) (h.begun told) t.1;
                shown = is ∙ (λ j. record { entries = shown.entries j; transcripts = shown.transcripts j; files = []; common = []; clock = shown.clock j });
              });
          counted =
              subst (λ (es : List Entry). IsCounted [] es was.drum_calls now.drum_calls) (sym (ap (λ (r : Record). r.entries) is))
              (subst (λ (o : Option CallList). IsCounted [] s.bare.entries was.drum_calls o) now_is
              (subst (λ (o : Option CallList). IsCounted [] s.bare.entries o s.back.calls) h.calls (subst (λ (es : List Entry). IsCounted es s.bare.entries h.start.back.calls s.back.calls) h.entries h.ran.counted)));
          bare = no_files rec is;
          cause = (let a = h.disk in let c = h.ran.ended.1 in omega (arith, a, c, has));
        }
    lost (NeverRan h) now_is has rec is =
        let uncalled = sym now_is ∙ h.calls in
        record {
          lacks = AtStart uncalled (is ∙ h.shown);
          counted = counted_same [] rec.entries was.drum_calls now.drum_calls (ap (λ (r : Record). r.entries) (is ∙ h.shown) ∙ none_at_start script) uncalled;
          bare = no_files rec is;
          cause = subst (λ (n : ℕ). Rose was.disk_faults n) has h.cause;
        }
    lost (NotGiven h) now_is has rec is = absurd (let e = h.ended in cc)

    -- no record, as memory lacked

    spent_in_steps : (result : Result Unit RunFault) → (h : HasGone script was result s) → IsCounted h.start.bare.entries s.bare.entries h.start.back.calls s.back.calls → s.back.calls ≡ now.drum_calls
        → (was.tells ≡ true → IsBeginning s.bare.entries (record_of script).entries) → HasSpent script was now
    spent_in_steps result h counted now_is begins =
        InSteps s.bare.entries
        (subst (λ (o : Option CallList). IsCounted [] s.bare.entries was.drum_calls o) now_is
        (subst (λ (o : Option CallList). IsCounted [] s.bare.entries o s.back.calls) h.calls (subst (λ (es : List Entry). IsCounted es s.bare.entries h.start.back.calls s.back.calls) h.entries counted)))
        begins

    spent_before : s.back.calls ≡ was.drum_calls → s.back.calls ≡ now.drum_calls → HasSpent script was now
    spent_before uncalled now_is = InSteps [] (counted_same [] [] was.drum_calls now.drum_calls refl (sym now_is ∙ uncalled)) (λ told. ((record_of script).entries, refl))

    pub spent : (ended : Result Unit RunFault) → IsScriptRun script was ended s → s.back.calls ≡ now.drum_calls → s.back.faults ≡ now.drum_faults → HasSpent script was now
    spent (Ok x) (Ran h) now_is has =
        spent_in_steps (Ok x) h h.ran.counted now_is (λ told. subst (λ (r : Record). IsBeginning s.bare.entries r.entries) (ends_as x h told) (ended_begins s.back.held.stores (run_of s)))
    spent (Ok x) (NeverRan h) now_is has = absurd (let e = h.ended in cc)
    spent (Ok x) (NotGiven h) now_is has = absurd (let e = h.ended in cc)
    spent (Err NoMemory) (Ran h) now_is has =
        spent_in_steps (Err NoMemory) h h.ran.counted now_is (λ told.
        let t = h.ran.ended (h.tells ∙ told) in
        let part : AfterSteps script.end (start_of script) t.0 = subst (λ (x : Run). AfterSteps script.end x t.0) (h.begun told) t.1 in
        let same : t.0.system.entries ≡ s.bare.entries = sym (ap (λ (r : Run). r.system.entries) t.2) ∙ entries_joined s.back.held.stores (run_of s) in
        subst (λ (es : List Entry). IsBeginning es (record_of script).entries) same (stopped_runs_are_beginnings script t.0 part).entries)
    spent (Err NoMemory) (NeverRan h) now_is has = absurd (let e = h.ended in cc)
    spent (Err NoMemory) (NotGiven h) now_is has = spent_before h.calls now_is
    spent (Err Drum) ran now_is has = AtLoad (λ told. (record_so_far (run_apart s), (stopped ran now_is has (record_so_far (run_apart s)) refl).stopped told))
    spent (Err Disk) (Ran h) now_is has =
        spent_in_steps (Err Disk) h h.ran.counted now_is (λ told.
        let t = h.ran.ended.0 (h.tells ∙ told) in
        let part : AfterSteps script.end (start_of script) t.0 = subst (λ (x : Run). AfterSteps script.end x t.0) (h.begun told) t.1 in
        subst (λ (es : List Entry). IsBeginning es (record_of script).entries) (sym t.2.entries) (stopped_runs_are_beginnings script t.0 part).entries)
    spent (Err Disk) (NeverRan h) now_is has = spent_before h.calls now_is
    spent (Err Disk) (NotGiven h) now_is has = absurd (let e = h.ended in cc)

    -- whatever the run hands out, over drum and disk as they are behind it
    pub played : (ended : Result Unit RunFault) → IsScriptRun script was ended s → (last : BackState) → last.calls ≡ s.back.calls → last.faults ≡ s.back.faults
        → last.calls ≡ now.drum_calls → last.faults ≡ now.drum_faults → last.disk_faults ≡ now.disk_faults
        → (p : Played) → Finishes ended s.bare s.back last p → IfDone p (λ rec. WhereTold now.disk_contents (λ contents. LieOn contents rec.files rec.common)) → IsPlayed script was now p
    played ended ran last same_calls same_faults calls faults disk (Done rec) f lie =
        done f.nothing (run_as ended (Ok f.nothing) f.ended_is ran) (sym same_calls ∙ calls) rec f.ends lie
    played ended ran last same_calls same_faults calls faults disk (DrumFailed rec) f lie =
        stopped (run_as ended (Err Drum) f.ended_is ran) (sym same_calls ∙ calls) (sym same_faults ∙ faults) rec f.shown
    played ended ran last same_calls same_faults calls faults disk (DiskFailed rec) (OnTheWay f) lie =
        lost (run_as ended (Err Disk) f.ended_is ran) (sym same_calls ∙ calls) (ap (λ (b : BackState). b.disk_faults) (sym f.same) ∙ disk) rec f.shown
    played ended ran last same_calls same_faults calls faults disk (DiskFailed rec) (BehindTheEnd f) lie =
        lost_at_end f.nothing (run_as ended (Ok f.nothing) f.ended_is ran) (sym same_calls ∙ calls) last.disk_faults disk rec f.ends

-- nothing was called
pub spent_nothing : (script : Script) (m : MediaSeen) → HasSpent script m m
spent_nothing script m = InSteps [] (counted_same [] [] m.drum_calls m.drum_calls refl refl) (λ told. ((record_of script).entries, refl))

-- what two facts of an answer make
pub both_ok : {T E : Type 0} (r : Result T E) (P Q R : T → Type 0) → ((x : T) → P x → Q x → R x) → IfOk r P → IfOk r Q → IfOk r R
both_ok (Ok x) P Q R f p q = f x p q
both_ok (Err e) P Q R f p q = tt

-- a run that came to its end may be asked for its record

pub lasts_ok : {T : Type 0} (r : Result T RunFault) (P : Type 0) → Lasts r P → OnOk r P
lasts_ok (Ok x) P h = h
lasts_ok (Err f) P h = tt

pub agrees_at_end : (script : Script) (was : MediaSeen) (s : Whole) (r : Result Unit RunFault) → IsScriptRun script was r s → OnOk r (Agrees s)
agrees_at_end script was s (Ok x) ran = (gone script was s x ran).ran.tied
agrees_at_end script was s (Err f) ran = tt

pub open_at_end : (script : Script) (was : MediaSeen) (s : Whole) (r : Result Unit RunFault) → IsScriptRun script was r s → OnOk r (s.bare.ended ≡ false)
open_at_end script was s (Ok x) ran = let h = gone script was s x ran in h.ran.cut ∙ h.unended
open_at_end script was s (Err f) ran = tt
