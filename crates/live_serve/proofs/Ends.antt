-- What the runs of live consoles leave.
use Rattle.std.proofs.Common.{◌≡◌, ℕ, ◌+◌, ◌*◌, true, List, [], ◌∷◌, ◌++◌, map, length, Option, Some, Err, refl, sym, ap, subst, ◌∙◌, arith}
use Rattle.medium.specs.Medium.{CallList}
use Rattle.ctss_types.specs.declared.fault.RunFault.TheVariants.{Drum, Disk, NoMemory}
use Rattle.faults.specs.Faults.{WhereTold}
use Rattle.file_tracks.specs.Lying.{LieOn}
use Rattle.supervisor.specs.Closes.{EndsComplete}
use Rattle.live_run.specs.Media.{MediaSeen}
use Rattle.ctss_types.specs.declared.script.Script.{Script}
use Rattle.ctss_types.specs.declared.script.Timed.{Timed}
use Rattle.ctss_types.specs.declared.history.Record.{Record}
use Rattle.time_sharing.specs.System.{Entry}
use Rattle.user_model.specs.Inner.{Stored}
use Rattle.plan_model.specs.Loads.{Places, no_places}
use Rattle.system_model.specs.Run.{Run, AfterSteps, with_all_events, ended}
use Rattle.system_model.specs.Joined.{joined}
use Rattle.system_model.specs.Record.{start_of, record_of, record_from}
use Rattle.live_core.specs.Core.{CoreCall, Took, Went}
use Rattle.supervisor.specs.Seen.{run_with, record_so_far, without_files}
use Rattle.supervisor.specs.Counts.{IsCounted, IsCountedToLoad, calls_to_load}
use Rattle.supervisor.specs.Steps.{StopsAtLoad, Shows}
use Rattle.system_model.specs.Cases.{closed, end_notes, idle_notes}
use Rattle.system_model.proofs.CaseLaws.{closes}
use Rattle.system_model.proofs.RunLaws.{after_none}
use Rattle.supervisor.specs.Whole.{Whole, Advances, run_of, run_apart}
use Rattle.live_run.specs.Beginnings.{IsBeginning}
use Rattle.live_run.specs.Calls.{Follows, run_over}
use Rattle.live_run.specs.Starts.{Begins}
use Rattle.live_run.specs.Parts.{run_in, live_script, calls_of}
use Rattle.live_run.proofs.Calls.{calls_are_runs, calls_are_counted, all_taken}
use Rattle.live_run.proofs.InParts.{live_runs_are_replays}
use Rattle.live_run.proofs.Records.{counted_at_end, ends_joined}
use Rattle.console_server.specs.History.{heard_in, events_in}
use Rattle.console_link.specs.Links.{LinkSeen}
use Rattle.console_server.specs.Server.{CutAt}
use Rattle.console_server.specs.Conversation.{TurnSeen, events_of_turns}
use Rattle.supervisor.proofs.Counting.{counted_on}
use Rattle.live_serve.specs.Talks.{empty_desk, silent, IsCutTalk}
use Rattle.live_serve.specs.Live.{parts_from, IsLiveRecord, StepsInTurn, IsInTurn, StopsInTurn}
use Rattle.live_serve.proofs.Ticks.{in_order}
use Rattle.live_serve.proofs.Behind.{heard_are, events_are, follows_apart, counted_then_cut}

abbrev events_by : List TurnSeen → List (List Timed)
events_by turns = events_of_turns 0 silent empty_desk turns

entries_joined : (f : ℕ → Stored) (r : Run) → (joined f r).system.entries ≡ r.system.entries
unfolding joined
entries_joined f r = refl

-- an ended run's schedule has more at its end
pub ended_begins : (f : ℕ → Stored) (r : Run) → IsBeginning r.system.entries (record_from (ended (joined f r))).entries
unfolding joined closed
ended_begins f r = (end_notes r.system.service ++ idle_notes r.system.idling r.system.clock, ap (λ (q : Run). q.system.entries) (closes (joined f r)))

module _ (base : Script) (was : MediaSeen) (turns : List TurnSeen) (a b : Whole) (begins : Begins base was.tells a) (was_is : a.back.calls ≡ was.drum_calls) where
  -- a run after the calls of whole turns
  parts_behind : Follows (heard_in 0 (events_by turns)) a b → Follows (calls_of (parts_from 0 (events_by turns))) a b
  parts_behind h = subst (λ (l : List CoreCall). Follows l a b) (heard_are 0 (events_by turns)) h

  pub counted_behind : Follows (heard_in 0 (events_by turns)) a b → IsCounted [] b.bare.entries was.drum_calls b.back.calls
  counted_behind h =
      subst (λ (o : Option CallList). IsCounted [] b.bare.entries o b.back.calls) was_is
      (subst (λ (es : List Entry). IsCounted es b.bare.entries a.back.calls b.back.calls) begins.entries (calls_are_counted (parts_from 0 (events_by turns)) a b (parts_behind h)))

  run_behind : was.tells ≡ true → Follows (heard_in 0 (events_by turns)) a b
      → (run_over b ≡ run_in (parts_from 0 (events_by turns)) (start_of (record base { events = [] }))) × (b.back.held.tells ≡ true)
  run_behind told h =
      let run = calls_are_runs (parts_from 0 (events_by turns)) a b (begins.tells ∙ told) (parts_behind h) in
      (run.0 ∙ ap (run_in (parts_from 0 (events_by turns))) (begins.run told), run.1)

  -- the end of such a run is that of the live script
  ends_as : was.tells ≡ true → (count : ℕ) (events : List Timed) → length turns ≡ count → events ≡ events_in (events_by turns) → Follows (heard_in 0 (events_by turns)) a b
      → record_from (ended (run_over b)) ≡ record_of (live_script base events (1000 * count))
  ends_as told count events many are h =
      let parts = parts_from 0 (events_by turns) in
      let last : 1000 * count ≡ 1000 * (0 + length turns) = omega (arith, many) in
      ap (λ (r : Run). record_from (ended r)) (run_behind told h).0
      ∙ live_runs_are_replays base parts (1000 * count) (in_order 0 (1000 * count) silent empty_desk turns last)
      ∙ ap (λ (es : List Timed). record_of (live_script base es (1000 * count))) (events_are 0 (events_by turns) ∙ sym are)

  -- all turns were done
  pub live_record : (now : MediaSeen) (count : ℕ) (events : List Timed) (rec : Record) → length turns ≡ count → events ≡ events_in (events_by turns)
      → Follows (heard_in 0 (events_by turns)) a b → EndsComplete b.bare b.back.held rec → b.back.calls ≡ now.drum_calls → WhereTold now.disk_contents (λ contents. LieOn contents rec.files rec.common)
      → IsLiveRecord base count events was now rec
  live_record now count events rec many are h ends now_is lie =
      record {
        record_is = λ told. ends.record_is (run_behind told h).1 b.back.held.places ∙ ends_as told count events many are h;
        counted =
            subst (λ (es : List Entry). IsCounted [] es was.drum_calls now.drum_calls) (sym (ap (λ (r : Record). r.entries) (ends.said no_places)))
            (counted_at_end [] (run_with no_places b.bare) was.drum_calls now.drum_calls (subst (λ (o : Option CallList). IsCounted [] b.bare.entries was.drum_calls o) now_is (counted_behind h)));
        lie = lie;
      }

  -- all turns were done, and then memory lacked
  pub begins_at_end : was.tells ≡ true → (count : ℕ) (events : List Timed) → length turns ≡ count → events ≡ events_in (events_by turns) → Follows (heard_in 0 (events_by turns)) a b
      → IsBeginning b.bare.entries (record_of (live_script base events (1000 * count))).entries
  begins_at_end told count events many are h = subst (λ (r : Record). IsBeginning b.bare.entries r.entries) (ends_as told count events many are h) (ended_begins b.back.held.stores (run_of b))

  -- all turns were done, and then the disk failed
  pub lost_at_end : (count : ℕ) (events : List Timed) (rec : Record) → length turns ≡ count → events ≡ events_in (events_by turns)
      → Follows (heard_in 0 (events_by turns)) a b → ((places : Places) → rec ≡ without_files (record_from (ended (run_with places b.bare)))) → was.tells ≡ true
      → rec ≡ without_files (record_of (live_script base events (1000 * count)))
  lost_at_end count events rec many are h said told =
      said b.back.held.places
      ∙ ends_joined b.back.held.stores (run_with b.back.held.places b.bare)
      ∙ ap without_files (ends_as told count events many are h)

  pub counted_when_lost : (now : MediaSeen) (rec : Record) → Follows (heard_in 0 (events_by turns)) a b → ((places : Places) → rec ≡ without_files (record_from (ended (run_with places b.bare))))
      → b.back.calls ≡ now.drum_calls → IsCounted [] rec.entries was.drum_calls now.drum_calls
  counted_when_lost now rec h said now_is =
      subst (λ (es : List Entry). IsCounted [] es was.drum_calls now.drum_calls) (sym (ap (λ (r : Record). r.entries) (said no_places)))
      (counted_at_end [] (run_with no_places b.bare) was.drum_calls now.drum_calls (subst (λ (o : Option CallList). IsCounted [] b.bare.entries was.drum_calls o) now_is (counted_behind h)))

module _ (base : Script) (was : MediaSeen) {port count : ℕ} {place : CutAt} {x y : LinkSeen} (talk : IsCutTalk base was.tells port count place x y) (a c : Whole) (begins : Begins base was.tells a) (was_is : a.back.calls ≡ was.drum_calls) where
  abbrev given_before : List (List Timed)
  given_before = events_by talk.turns

  abbrev limit : ℕ
  limit = 1000 * (length talk.turns + 1)

  -- steps after the events of this turn
  steps_as : was.tells ≡ true → (b given : Whole) → Follows (heard_in 0 given_before) a b → run_over given ≡ with_all_events talk.events (run_over b) → (r : Run) → AfterSteps limit (run_over given) r → StepsInTurn base talk r
  steps_as told b given behind is r part = subst (λ (q : Run). AfterSteps limit q r) (is ∙ ap (with_all_events talk.events) (run_behind base was talk.turns a b begins was_is told behind).0) part

  -- what the schedule has, by the loads of which the drum was called
  pub record Spent (entries : List Entry) (now : Option CallList) : Type 0 where
    pub counted : IsCounted [] entries was.drum_calls now
    pub part : was.tells ≡ true → (r : Run) × StepsInTurn base talk r × (entries ≡ r.system.entries)

  -- the turn failed before the core went on
  pub spent_before : Follows (heard_in 0 given_before ++ (map Took talk.events ++ [])) a c → Spent c.bare.entries c.back.calls
  spent_before h =
      let apart = follows_apart (heard_in 0 given_before) (map Took talk.events ++ []) a c h in
      let b = apart.0 in
      let given = all_taken talk.events [] b c apart.2 in
      record {
        counted =
            subst (λ (w : Whole). IsCounted [] w.bare.entries was.drum_calls w.back.calls) (sym given.4)
            (counted_on [] b.bare.entries given.0.bare.entries was.drum_calls b.back.calls given.0.back.calls (counted_behind base was talk.turns a b begins was_is apart.1) given.3);
        part = λ told. (
          run_over given.0,
          steps_as told b given.0 apart.1 given.1 (run_over given.0) (after_none limit (run_over given.0)),
          ap (λ (w : Whole). w.bare.entries) given.4 ∙ sym (entries_joined given.0.back.held.stores (run_of given.0)),
        );
      }

  -- memory lacked on the way to the limit
  pub spent_on_way : Follows (heard_in 0 given_before ++ (map Took talk.events ++ Went limit (Some NoMemory) ∷ [])) a c → Spent c.bare.entries c.back.calls
  spent_on_way h =
      let last = Went limit (Some NoMemory) ∷ [] in
      let apart = follows_apart (heard_in 0 given_before) (map Took talk.events ++ last) a c h in
      let b = apart.0 in
      let given = all_taken talk.events last b c apart.2 in
      let went : Advances limit (Err NoMemory) given.0 c = subst (λ (w : Whole). Advances limit (Err NoMemory) given.0 w) (sym given.4.2) given.4.1 in
      record {
        counted = counted_on [] b.bare.entries c.bare.entries was.drum_calls b.back.calls c.back.calls (counted_behind base was talk.turns a b begins was_is apart.1)
            (counted_on b.bare.entries given.0.bare.entries c.bare.entries b.back.calls given.0.back.calls c.back.calls given.3 went.counted);
        part = λ told.
            (let t = went.ended (given.2 ∙ (run_behind base was talk.turns a b begins was_is told apart.1).1) in (
              t.0,
              steps_as told b given.0 apart.1 given.1 t.0 t.1,
              sym (entries_joined c.back.held.stores (run_of c)) ∙ ap (λ (r : Run). r.system.entries) t.2,
            ));
      }

  module _ (rec : Record) (rec_is : rec ≡ record_so_far (run_apart c)) where
    -- a record that is shown in this turn
    in_turn : was.tells ≡ true → (b given : Whole) → Follows (heard_in 0 given_before) a b → run_over given ≡ with_all_events talk.events (run_over b) → (r : Run) → AfterSteps limit (run_over given) r → Shows r (run_apart c) → IsInTurn base talk rec
    in_turn told b given behind is r part shown =
        record {
          run = r;
          part = steps_as told b given behind is r part;
          shown = rec_is ∙ (λ j. record { entries = shown.entries j; transcripts = shown.transcripts j; files = []; common = []; clock = shown.clock j });
        }

    -- the drum failed on the way of a turn to its limit
    pub stops_in_turn : was.tells ≡ true → (now : MediaSeen) → c.back.calls ≡ now.drum_calls → Follows (heard_in 0 given_before ++ (map Took talk.events ++ Went limit (Some Drum) ∷ [])) a c → StopsInTurn base talk was now rec
    unfolding in_turn
    stops_in_turn told now now_is h =
        let last = Went limit (Some Drum) ∷ [] in
        let apart = follows_apart (heard_in 0 given_before) (map Took talk.events ++ last) a c h in
        let b = apart.0 in
        let run = run_behind base was talk.turns a b begins was_is told apart.1 in
        let given = all_taken talk.events last b c apart.2 in
        let went : Advances limit (Err Drum) given.0 c = subst (λ (w : Whole). Advances limit (Err Drum) given.0 w) (sym given.4.2) given.4.1 in
        let s : StopsAtLoad limit (run_over given.0) (run_apart c) given.0.back.calls c.back.calls = went.ended.0 (given.2 ∙ run.1) in
        record {
          turn = in_turn told b given.0 apart.1 given.1 s.at s.part s.shown;
          early = s.early;
          load = s.load;
          counted =
              subst (λ (r : Record). IsCountedToLoad [] r.entries was.drum_calls now.drum_calls (calls_to_load s.load.due.user s.at)) (sym rec_is)
              (subst (λ (o : Option CallList). IsCountedToLoad [] c.bare.entries was.drum_calls o (calls_to_load s.load.due.user s.at)) now_is
              (counted_then_cut [] b.bare.entries c.bare.entries was.drum_calls b.back.calls c.back.calls (calls_to_load s.load.due.user s.at) (counted_behind base was talk.turns a b begins was_is apart.1)
              (counted_then_cut b.bare.entries given.0.bare.entries c.bare.entries b.back.calls given.0.back.calls c.back.calls (calls_to_load s.load.due.user s.at) given.3
              (subst (λ (es : List Entry). IsCountedToLoad es c.bare.entries given.0.back.calls c.back.calls (calls_to_load s.load.due.user s.at)) (entries_joined given.0.back.held.stores (run_with given.0.back.held.places given.0.bare)) s.counted))));
        }

    -- so did the disk
    module _ (h : Follows (heard_in 0 given_before ++ (map Took talk.events ++ Went limit (Some Disk) ∷ [])) a c) where
      pub lost_in_turn : was.tells ≡ true → IsInTurn base talk rec
      lost_in_turn told =
          let last = Went limit (Some Disk) ∷ [] in
          let apart = follows_apart (heard_in 0 given_before) (map Took talk.events ++ last) a c h in
          let b = apart.0 in
          let run = run_behind base was talk.turns a b begins was_is told apart.1 in
          let given = all_taken talk.events last b c apart.2 in
          let went : Advances limit (Err Disk) given.0 c = subst (λ (w : Whole). Advances limit (Err Disk) given.0 w) (sym given.4.2) given.4.1 in
          let s = went.ended.0 (given.2 ∙ run.1) in
          in_turn told b given.0 apart.1 given.1 s.0 s.1 s.2

      pub counted_in_turn : (now : MediaSeen) → c.back.calls ≡ now.drum_calls → IsCounted [] rec.entries was.drum_calls now.drum_calls
      counted_in_turn now now_is =
          let last = Went limit (Some Disk) ∷ [] in
          let apart = follows_apart (heard_in 0 given_before) (map Took talk.events ++ last) a c h in
          let b = apart.0 in
          let given = all_taken talk.events last b c apart.2 in
          let went : Advances limit (Err Disk) given.0 c = subst (λ (w : Whole). Advances limit (Err Disk) given.0 w) (sym given.4.2) given.4.1 in
          subst (λ (r : Record). IsCounted [] r.entries was.drum_calls now.drum_calls) (sym rec_is)
          (subst (λ (o : Option CallList). IsCounted [] c.bare.entries was.drum_calls o) now_is
          (counted_on [] b.bare.entries c.bare.entries was.drum_calls b.back.calls c.back.calls (counted_behind base was talk.turns a b begins was_is apart.1)
          (counted_on b.bare.entries given.0.bare.entries c.bare.entries b.back.calls given.0.back.calls c.back.calls given.3 went.counted)))
