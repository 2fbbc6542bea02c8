-- What a run leaves behind the talk that was had over it.
use Rattle.std.proofs.Common.{◌≡◌, ℕ, ◌+◌, ◌*◌, ◌≤◌, true, false, List, [], ◌∷◌, ◌++◌, Some, length, map, Ok, Err, refl, sym, ap, subst, ◌∙◌, arith}
use Rattle.std.specs.Prelude.{IfOk, OnOk, OnErr, IfErr, IsErrOf, is_err}
use Rattle.std.specs.declared.result.Result.{Result}
use Rattle.faults.specs.Faults.{Rose, WhereTold}
use Rattle.file_tracks.specs.Lying.{LieOn}
use Rattle.ctss_types.specs.declared.script.Script.{Script}
use Rattle.ctss_types.specs.declared.script.Timed.{Timed}
use Rattle.ctss_types.specs.declared.history.Record.{Record}
use Rattle.plan_model.specs.Loads.{Places, no_places}
use Rattle.system_model.specs.Run.{Run, ended}
use Rattle.system_model.specs.Record.{start_of, record_from}
use Rattle.live_core.specs.Core.{CoreSeen, CoreCall, Took, Went}
use Rattle.supervisor.specs.Seen.{Bare, run_with, record_so_far, without_files}
use Rattle.supervisor.specs.Whole.{Whole, whole_of, run_apart}
use Rattle.live_run.specs.Calls.{Follows, seen_of}
use Rattle.live_run.specs.Media.{MediaSeen}
use Rattle.live_run.specs.Starts.{Begins, IsBegun}
use Rattle.ctss_types.specs.declared.fault.StepFault.{StepFault}
use Rattle.ctss_types.specs.declared.fault.StepFault.TheVariants.{Disk as DiskFault}
use Rattle.supervisor.specs.Closes.{EndsComplete}
use Rattle.supervisor.proofs.Counting.{counted_same}
use Rattle.console_link.specs.Links.{LinkSeen, Did, DidOpen, DidClose}
use Rattle.console_server.specs.declared.fault.ServeFault.{ServeFault}
use Rattle.console_server.specs.declared.fault.ServeFault.TheVariants as serve
use Rattle.console_server.specs.Readings.{DidAll, Nothing, Then}
use Rattle.console_server.specs.History.{heard_in}
use Rattle.console_server.specs.Server.{IsCause, CutAt, Waiting, Hanging, Accepting, Dialling, Reading, Advancing, MayMeet, IsTurnUntil, GivenUntil, calls_until, ends_with}
use Rattle.console_server.specs.Conversation.{HasShown, calls_of_turns, events_of_turns, desk_behind, texts_behind}
use Rattle.live_serve.specs.Talks.{empty_desk, silent, events_given, IsTalk, IsCutTalk, TalkIsDone, TalkIsCut}
use Rattle.live_serve.specs.Live.{IsLiveRecord, HasNoFiles, IsStopped, IsLost, IsServed, HasSpent, RunEnds, AtStart, InTurn, AtEnd, BeforeTurns, NotOpened, InTurns, AtLoad, BehindTurns}
use Rattle.live_serve.specs.Hosts.{as_served, EndsSo, Hosts}
use Rattle.live_serve.specs.declared.fault.ServingFault.{ServingFault}
use Rattle.ctss_types.specs.declared.file.FileBody.{FileBody}
use Rattle.supervisor.specs.Counts.{IsCounted}
use Rattle.medium.specs.Medium.{CallList}
use Rattle.std.specs.Prelude.{Option}
use Rattle.live_serve.specs.declared.ending.Served.{Served}
use Rattle.live_serve.specs.declared.ending.Served.TheVariants.{Done, DrumFailed, DiskFailed}
use Rattle.live_run.specs.declared.ending.Played.{Played}
use Rattle.live_run.specs.declared.ending.Played.TheVariants as played
use Rattle.live_run.specs.Finishes.{Finishes, IfDone, OnTheWay, BehindTheEnd}
use Rattle.ctss_types.specs.declared.fault.RunFault.{RunFault}
use Rattle.ctss_types.specs.declared.fault.RunFault.TheVariants.{Drum, Disk, NoMemory}
use Rattle.user_cores.specs.Backing.{BackState}
use Rattle.live_serve.proofs.Behind.{disk_rises}
use Rattle.live_serve.proofs.Ends.{live_record, counted_behind, begins_at_end, Spent, spent_before, spent_on_way, stops_in_turn, lost_in_turn, counted_in_turn, lost_at_end, counted_when_lost}
use Rattle.live_serve.proofs.Shown.{are_texts}

pub rose_as : (a b c d : ℕ) → a ≡ c → Rose a b → b ≡ d → Rose c d
rose_as a b c d one rose two = subst (λ (n : ℕ). Rose c n) two (subst (λ (n : ℕ). Rose n b) one rose)

abbrev IsDrum : ServeFault → Type 0
IsDrum serve.Link = ⊥
IsDrum serve.Drum = Unit {0}
IsDrum serve.Disk = ⊥
IsDrum serve.NoMemory = ⊥

-- a turn meets a fault of the drum only on its way to its limit
of_drum : (at : CutAt) → MayMeet at serve.Drum → at ≡ Advancing
of_drum Waiting is = absurd (subst IsDrum is tt)
of_drum Hanging is = absurd (subst IsDrum is tt)
of_drum Accepting is = absurd (subst IsDrum is tt)
of_drum Dialling is = absurd (subst IsDrum is tt)
of_drum Reading is = absurd (subst IsDrum is tt)
of_drum Advancing is = refl

abbrev IsDisk : ServeFault → Type 0
IsDisk serve.Link = ⊥
IsDisk serve.Drum = ⊥
IsDisk serve.Disk = Unit {0}
IsDisk serve.NoMemory = ⊥

-- so it does with a fault of the disk
of_disk : (at : CutAt) → MayMeet at serve.Disk → at ≡ Advancing
of_disk Waiting is = absurd (subst IsDisk is tt)
of_disk Hanging is = absurd (subst IsDisk is tt)
of_disk Accepting is = absurd (subst IsDisk is tt)
of_disk Dialling is = absurd (subst IsDisk is tt)
of_disk Reading is = absurd (subst IsDisk is tt)
of_disk Advancing is = refl

-- a fault that leaves no record
abbrev LeavesNone : ServeFault → Type 0
LeavesNone serve.Link = Unit {0}
LeavesNone serve.Drum = ⊥
LeavesNone serve.Disk = ⊥
LeavesNone serve.NoMemory = Unit {0}

-- how the core's calls ended in such a turn: before its way to the limit, or on it
data HowEnded (n : ℕ) (calls : List CoreCall) : Type 0 where
  NotOn : calls ≡ [] → HowEnded n calls
  OnIt : calls ≡ Went (1000 * (n + 1)) (Some NoMemory) ∷ [] → HowEnded n calls

ends_how : (n : ℕ) (fault : ServeFault) (at : CutAt) → LeavesNone fault → MayMeet at fault → HowEnded n (ends_with n fault at)
ends_how n fault Waiting none met = NotOn refl
ends_how n fault Hanging none met = NotOn refl
ends_how n fault Accepting none met = NotOn refl
ends_how n fault Dialling none met = NotOn refl
ends_how n fault Reading none met = NotOn refl
ends_how n serve.Link Advancing none met = absurd (met refl)
ends_how n serve.Drum Advancing none met = absurd none
ends_how n serve.Disk Advancing none met = absurd none
ends_how n serve.NoMemory Advancing none met = OnIt refl

-- what is true of a record that was handed out
if_done : (P Q : List (List FileBody) → List FileBody → Type 0) → ((rec : Record) → P rec.files rec.common → Q rec.files rec.common) → (p : Played) → IfDone p (λ rec. P rec.files rec.common) → IfDone p (λ rec. Q rec.files rec.common)
if_done P Q f (played.Done rec) h = f rec h
if_done P Q f (played.DrumFailed rec) h = tt
if_done P Q f (played.DiskFailed rec) h = tt

no_fault : (run : Result Unit RunFault) (x : Unit) (fault : RunFault) → run ≡ Ok x → run ≡ Err fault → ⊥
no_fault run x fault ended failed = let wrong = sym ended ∙ failed in cc

-- a record so far has no files, and neither has one that lacks them
no_files_so_far : (rec : Record) (r : Run) → rec ≡ record_so_far r → HasNoFiles rec
no_files_so_far rec r is = record { own = ap (λ (x : Record). x.files) is; common = ap (λ (x : Record). x.common) is }

no_files_without : (rec all : Record) → rec ≡ without_files all → HasNoFiles rec
no_files_without rec all is = record { own = ap (λ (x : Record). x.files) is; common = ap (λ (x : Record). x.common) is }

module _ (base : Script) (was now : MediaSeen) (a b : Whole) (begins : Begins base was.tells a) {C : Type 0} (goes : C → List CoreCall → C → Type 0) (see : C → CoreSeen) (old new : C) (follow : (calls : List CoreCall) → goes old calls new → Follows calls a b)
    (reach : (calls : List CoreCall) (texts : List (List ℕ)) → HasShown goes see old calls texts → (w : Whole) × Follows calls a w × (w.bare.texts ≡ texts)) (was_is : a.back.calls ≡ was.drum_calls) (port count : ℕ) where
  talk_from_silent : (events : List Timed) (l m : LinkSeen) → TalkIsDone goes see a.bare.texts count events l m old new → TalkIsDone goes see silent count events l m old new
  talk_from_silent events l m talk = subst (λ (texts : List (List ℕ)). TalkIsDone goes see texts count events l m old new) begins.texts talk

  talk_is : (events : List Timed) (k l m : LinkSeen) → Did (DidOpen port false) k l → TalkIsDone goes see silent count events l m old new → IsTalk base was.tells port count events k m
  talk_is events k l m opened t = record {
    turns = t.turns;
    many = t.many;
    lawful = t.lawful;
    link = Then (DidOpen port false) _ k l m opened t.link;
    events_are = t.events_are;
    shown = λ told. are_texts base was a begins told goes see old reach t.turns t.each (1000 * count) events t.events_are;
  }

  -- all turns were done
  pub served : (events shown : List Timed) (k l m : LinkSeen) (rec : Record) → events ≡ shown → Did (DidOpen port false) k l → TalkIsDone goes see a.bare.texts count events l m old new
      → EndsComplete b.bare b.back.held rec → b.back.calls ≡ now.drum_calls → WhereTold now.disk_contents (λ contents. LieOn contents rec.files rec.common)
      → IsLiveRecord base count shown was now rec × IsTalk base was.tells port count shown k m
  served events shown k l m rec is opened talk ends now_is lie =
      let t : TalkIsDone goes see silent count shown l m old new = subst (λ (es : List Timed). TalkIsDone goes see silent count es l m old new) is (talk_from_silent events l m talk) in
      (live_record base was t.turns a b begins was_is now count shown rec t.many t.events_are (follow _ t.core) ends now_is lie, talk_is shown k l m opened t)

  -- and then the disk failed
  pub lost_behind : was.disk_faults ≤ a.back.disk_faults → (events : List Timed) (k l m : LinkSeen) (rec : Record) → Did (DidOpen port false) k l → TalkIsDone goes see a.bare.texts count events l m old new
      → ((places : Places) → rec ≡ without_files (record_from (ended (run_with places b.bare)))) → b.back.calls ≡ now.drum_calls → Rose b.back.disk_faults now.disk_faults → IsLost base port count was now k m rec
  lost_behind was_disk events k l m rec opened talk said now_is rose =
      let t = talk_from_silent events l m talk in
      let more = disk_rises _ a b (follow _ t.core) in
      record {
        lacks = AtEnd events (talk_is events k l m opened t) (λ told. lost_at_end base was t.turns a b begins was_is count events rec t.many t.events_are (follow _ t.core) said told);
        counted = counted_when_lost base was t.turns a b begins was_is now rec (follow _ t.core) said now_is;
        bare = no_files_without rec (record_from (ended (run_with no_places b.bare))) (said no_places);
        cause = omega (arith, was_disk, more, rose);
      }

  module _ (fault : ServeFault) (l m : LinkSeen) (talk : TalkIsCut goes see a.bare.texts count fault l m old new) where
    cut_from_silent : TalkIsCut goes see silent count fault l m old new
    cut_from_silent = subst (λ (texts : List (List ℕ)). TalkIsCut goes see texts count fault l m old new) begins.texts talk

    module _ (k : LinkSeen) (opened : Did (DidOpen port false) k l) (x : CutAt) (is : cut_from_silent.at ≡ x) where
      cut_talk : IsCutTalk base was.tells port count x k m
      cut_talk =
          let t = cut_from_silent in
          let texts = texts_behind silent t.turns in
          let desk = desk_behind silent empty_desk t.turns in
          record {
            turns = t.turns;
            few = t.few;
            lawful = t.lawful;
            answers = t.answers;
            heard = subst (IsTurnUntil texts desk t.answers) is t.cut.lawful;
            events = t.events;
            given = subst (λ (y : CutAt). GivenUntil (1000 * length t.turns) texts desk t.answers y t.events) is t.cut.given;
            closed = t.closed;
            seated = t.seated;
            link = Then (DidOpen port false) _ k l m opened
                (subst (λ (y : CutAt). DidAll (calls_of_turns silent empty_desk t.turns ++ (calls_until texts desk t.answers y ++ map DidClose t.closed)) l m) is t.link);
            shown = λ told. are_texts base was a begins told goes see old reach t.turns t.each (1000 * length t.turns) (events_given t.turns) refl;
          }

      went : Follows (heard_in 0 (events_of_turns 0 silent empty_desk cut_from_silent.turns) ++ (map Took cut_from_silent.events ++ ends_with (length cut_from_silent.turns) fault x)) a b
      went =
          follow _
          (subst (λ (y : CutAt). goes old (heard_in 0 (events_of_turns 0 silent empty_desk cut_from_silent.turns) ++ (map Took cut_from_silent.events ++ ends_with (length cut_from_silent.turns) fault y)) new) is cut_from_silent.core)

  pub stopped : (k l m : LinkSeen) (rec : Record) → Did (DidOpen port false) k l → TalkIsCut goes see a.bare.texts count serve.Drum l m old new → rec ≡ record_so_far (run_apart b) → b.back.calls ≡ now.drum_calls → Rose was.drum_faults now.drum_faults
      → IsStopped base port count was now k m rec
  unfolding cut_talk
  stopped k l m rec opened talk rec_is now_is rose =
      let t = cut_from_silent serve.Drum l m talk in
      let at_limit = of_drum t.at t.cut.met in
      let here = cut_talk serve.Drum l m talk k opened Advancing at_limit in
      record {
        talk = here;
        stopped = λ told. stops_in_turn base was here a b begins was_is rec rec_is told now now_is (went serve.Drum l m talk k opened Advancing at_limit);
        bare = no_files_so_far rec (run_apart b) rec_is;
        cause = rose;
      }

  pub lost : (k l m : LinkSeen) (rec : Record) → Did (DidOpen port false) k l → TalkIsCut goes see a.bare.texts count serve.Disk l m old new → rec ≡ record_so_far (run_apart b) → b.back.calls ≡ now.drum_calls → Rose was.disk_faults now.disk_faults
      → IsLost base port count was now k m rec
  unfolding cut_talk
  lost k l m rec opened talk rec_is now_is rose =
      let t = cut_from_silent serve.Disk l m talk in
      let at_limit = of_disk t.at t.cut.met in
      let here = cut_talk serve.Disk l m talk k opened Advancing at_limit in
      let run = went serve.Disk l m talk k opened Advancing at_limit in
      record {
        lacks = InTurn here (λ told. lost_in_turn base was here a b begins was_is rec rec_is run told);
        counted = counted_in_turn base was here a b begins was_is rec rec_is run now now_is;
        bare = no_files_so_far rec (run_apart b) rec_is;
        cause = rose;
      }

  -- no record came

  spent_behind : (events : List Timed) (k l m : LinkSeen) → Did (DidOpen port false) k l → TalkIsDone goes see a.bare.texts count events l m old new → b.back.calls ≡ now.drum_calls → HasSpent base port count was now k m
  spent_behind events k l m opened talk now_is =
      let t = talk_from_silent events l m talk in
      BehindTurns events (talk_is events k l m opened t) b.bare.entries
      (subst (λ (o : Option CallList). IsCounted [] b.bare.entries was.drum_calls o) now_is (counted_behind base was t.turns a b begins was_is (follow _ t.core)))
      (λ told. begins_at_end base was t.turns a b begins was_is told count events t.many t.events_are (follow _ t.core))

  spent_by : (at : CutAt) (k m : LinkSeen) (talk : IsCutTalk base was.tells port count at k m) → b.back.calls ≡ now.drum_calls → Spent base was talk a b begins was_is b.bare.entries b.back.calls → HasSpent base port count was now k m
  spent_by at k m talk now_is s = InTurns at talk b.bare.entries (subst (λ (o : Option CallList). IsCounted [] b.bare.entries was.drum_calls o) now_is s.counted) s.part

  spent_how : (at : CutAt) (k m : LinkSeen) (talk : IsCutTalk base was.tells port count at k m) → b.back.calls ≡ now.drum_calls → (ends : List CoreCall) → HowEnded (length talk.turns) ends
      → Follows (heard_in 0 (events_of_turns 0 silent empty_desk talk.turns) ++ (map Took talk.events ++ ends)) a b → HasSpent base port count was now k m
  spent_how at k m talk now_is ends (NotOn is) run =
      spent_by at k m talk now_is
      (spent_before base was talk a b begins was_is (subst (λ (es : List CoreCall). Follows (heard_in 0 (events_of_turns 0 silent empty_desk talk.turns) ++ (map Took talk.events ++ es)) a b) is run))
  spent_how at k m talk now_is ends (OnIt is) run =
      spent_by at k m talk now_is
      (spent_on_way base was talk a b begins was_is (subst (λ (es : List CoreCall). Follows (heard_in 0 (events_of_turns 0 silent empty_desk talk.turns) ++ (map Took talk.events ++ es)) a b) is run))

  spent_in_turn : (fault : ServeFault) → LeavesNone fault → (k l m : LinkSeen) → Did (DidOpen port false) k l → TalkIsCut goes see a.bare.texts count fault l m old new → b.back.calls ≡ now.drum_calls → HasSpent base port count was now k m
  unfolding cut_talk
  spent_in_turn fault none k l m opened talk now_is =
      let t = cut_from_silent fault l m talk in
      spent_how t.at k m (cut_talk fault l m talk k opened t.at refl) now_is (ends_with (length t.turns) fault t.at) (ends_how (length t.turns) fault t.at none t.cut.met) (went fault l m talk k opened t.at refl)

  spent_at_load : (k l m : LinkSeen) → Did (DidOpen port false) k l → TalkIsCut goes see a.bare.texts count serve.Drum l m old new → b.back.calls ≡ now.drum_calls → HasSpent base port count was now k m
  unfolding cut_talk
  spent_at_load k l m opened talk now_is =
      let t = cut_from_silent serve.Drum l m talk in
      let at_limit = of_drum t.at t.cut.met in
      let here = cut_talk serve.Drum l m talk k opened Advancing at_limit in
      AtLoad here (λ told. (
        record_so_far (run_apart b),
        stops_in_turn base was here a b begins was_is (record_so_far (run_apart b)) refl told now now_is (went serve.Drum l m talk k opened Advancing at_limit),
      ))

  spent_by_disk : (k l m : LinkSeen) → Did (DidOpen port false) k l → TalkIsCut goes see a.bare.texts count serve.Disk l m old new → b.back.calls ≡ now.drum_calls → HasSpent base port count was now k m
  unfolding cut_talk
  spent_by_disk k l m opened talk now_is =
      let t = cut_from_silent serve.Disk l m talk in
      let at_limit = of_disk t.at t.cut.met in
      let here = cut_talk serve.Disk l m talk k opened Advancing at_limit in
      let rec = record_so_far (run_apart b) in
      let run = went serve.Disk l m talk k opened Advancing at_limit in
      InTurns Advancing here b.bare.entries (counted_in_turn base was here a b begins was_is rec refl run now now_is)
      (λ told. let i = lost_in_turn base was here a b begins was_is rec refl run told in (i.run, i.part, ap (λ (r : Record). r.entries) i.shown))

  -- whatever a run hands out after its turns, over drum and disk as they are then
  module _ (was_drum : a.back.faults ≡ was.drum_faults) (was_disk : was.disk_faults ≤ a.back.disk_faults) (last : BackState) (same_calls : last.calls ≡ b.back.calls) (same_faults : last.faults ≡ b.back.faults)
      (calls : last.calls ≡ now.drum_calls) (drum : last.faults ≡ now.drum_faults) (disk : last.disk_faults ≡ now.disk_faults) (events : List Timed) (k l m : LinkSeen) (opened : Did (DidOpen port false) k l) where
    abbrev Lie : Record → Type 0
    Lie rec = WhereTold now.disk_contents (λ contents. LieOn contents rec.files rec.common)

    done_served : (x : Unit) (run : Result Unit RunFault) → run ≡ Ok x → TalkIsDone goes see a.bare.texts count events l m old new
        → (p : Played) → Finishes run b.bare b.back last p → IfDone p Lie → IsServed base port count was now k m (as_served events p)
    done_served x run is talk (played.Done rec) f lie = served events events k l m rec refl opened talk f.ends (sym same_calls ∙ calls) lie
    done_served x run is talk (played.DrumFailed rec) f lie = absurd (no_fault run x Drum is f.ended_is)
    done_served x run is talk (played.DiskFailed rec) (OnTheWay f) lie = absurd (no_fault run x Disk is f.ended_is)
    done_served x run is talk (played.DiskFailed rec) (BehindTheEnd f) lie = lost_behind was_disk events k l m rec opened talk f.ends.said (sym same_calls ∙ calls) (rose_as b.back.disk_faults last.disk_faults b.back.disk_faults now.disk_faults refl f.ends.cause disk)

    drum_served : (run : Result Unit RunFault) → run ≡ Err Drum → TalkIsCut goes see a.bare.texts count serve.Drum l m old new → Rose a.back.faults b.back.faults
        → (p : Played) → Finishes run b.bare b.back last p → IfDone p Lie → IsServed base port count was now k m (as_served events p)
    drum_served run is talk cause (played.Done rec) f lie = absurd (no_fault run f.nothing Drum f.ended_is is)
    drum_served run is talk cause (played.DrumFailed rec) f lie = stopped k l m rec opened talk f.shown (sym same_calls ∙ calls) (rose_as a.back.faults b.back.faults was.drum_faults now.drum_faults was_drum cause (sym same_faults ∙ drum))
    drum_served run is talk cause (played.DiskFailed rec) (OnTheWay f) lie = absurd (let wrong = sym is ∙ f.ended_is in cc)
    drum_served run is talk cause (played.DiskFailed rec) (BehindTheEnd f) lie = absurd (no_fault run f.nothing Drum f.ended_is is)

    disk_served : (run : Result Unit RunFault) → run ≡ Err Disk → TalkIsCut goes see a.bare.texts count serve.Disk l m old new → Rose a.back.disk_faults b.back.disk_faults
        → (p : Played) → Finishes run b.bare b.back last p → IfDone p Lie → IsServed base port count was now k m (as_served events p)
    disk_served run is talk cause (played.Done rec) f lie = absurd (no_fault run f.nothing Disk f.ended_is is)
    disk_served run is talk cause (played.DrumFailed rec) f lie = absurd (let wrong = sym is ∙ f.ended_is in cc)
    disk_served run is talk cause (played.DiskFailed rec) (OnTheWay f) lie =
        let same : b.back.disk_faults ≡ now.disk_faults = ap (λ (s : BackState). s.disk_faults) (sym f.same) ∙ disk in
        lost k l m rec opened talk f.shown (sym same_calls ∙ calls) (omega (arith, was_disk, cause, same))
    disk_served run is talk cause (played.DiskFailed rec) (BehindTheEnd f) lie = absurd (no_fault run f.nothing Disk f.ended_is is)

    played_served : (ended : Result Unit ServeFault) (run : Result Unit RunFault) → RunEnds ended run
        → OnOk ended (TalkIsDone goes see a.bare.texts count events l m old new) → IfErr ended (λ fault. TalkIsCut goes see a.bare.texts count fault l m old new) → IfErr ended (λ fault. IsCause fault l m (seen_of a) (seen_of b))
        → (p : Played) → Finishes run b.bare b.back last p → IfDone p Lie → IsServed base port count was now k m (as_served events p)
    played_served (Ok x) run is done cut cause p f lie = done_served x run is done p f lie
    played_served (Err serve.Link) run is done cut cause p f lie = absurd is
    played_served (Err serve.Drum) run is done cut cause p f lie = drum_served run is cut cause p f lie
    played_served (Err serve.Disk) run is done cut cause p f lie = disk_served run is cut cause p f lie
    played_served (Err serve.NoMemory) run is done cut cause p f lie = absurd is

    spent : (ended : Result Unit ServeFault) → OnOk ended (TalkIsDone goes see a.bare.texts count events l m old new) → IfErr ended (λ fault. TalkIsCut goes see a.bare.texts count fault l m old new) → HasSpent base port count was now k m
    spent (Ok x) done cut = spent_behind events k l m opened done (sym same_calls ∙ calls)
    spent (Err serve.Link) done cut = spent_in_turn serve.Link tt k l m opened cut (sym same_calls ∙ calls)
    spent (Err serve.Drum) done cut = spent_at_load k l m opened cut (sym same_calls ∙ calls)
    spent (Err serve.Disk) done cut = spent_by_disk k l m opened cut (sym same_calls ∙ calls)
    spent (Err serve.NoMemory) done cut = spent_in_turn serve.NoMemory tt k l m opened cut (sym same_calls ∙ calls)

    pub hosted : (Lies : List (List FileBody) → List FileBody → Type 0) → ((files : List (List FileBody)) (common : List FileBody) → Lies files common → WhereTold now.disk_contents (λ contents. LieOn contents files common)) → (ended : Result Unit ServeFault)
        → OnOk ended (TalkIsDone goes see a.bare.texts count events l m old new) → IfErr ended (λ fault. TalkIsCut goes see a.bare.texts count fault l m old new) → IfErr ended (λ fault. IsCause fault l m (seen_of a) (seen_of b))
        → (result : Result Served ServingFault) → IfOk result (EndsSo Lies ended b.bare b.back last events) → Hosts base port count was now k m result
    hosted Lies lie ended done cut cause (Ok s) e =
        subst (IsServed base port count was now k m) (sym e.served) (played_served ended e.run e.so done cut cause e.hands e.finishes (if_done Lies (λ files common. WhereTold now.disk_contents (λ contents. LieOn contents files common)) (λ rec. lie rec.files rec.common) e.hands e.lies))
    hosted Lies lie ended done cut cause (Err f) e = spent ended done cut

-- what a talk keeps, however it ended
pub talk_keeps : {C : Type 0} (keeps : C → C → Type 0) (goes : C → List CoreCall → C → Type 0) (see : C → CoreSeen) → ((a b : C) (calls : List CoreCall) → goes a calls b → keeps a b)
    → (texts : List (List ℕ)) (count : ℕ) (events : List Timed) (l m : LinkSeen) (old new : C) (ended : Result Unit ServeFault)
    → OnOk ended (TalkIsDone goes see texts count events l m old new) → IfErr ended (λ fault. TalkIsCut goes see texts count fault l m old new) → keeps old new
talk_keeps keeps goes see f texts count events l m old new (Ok x) done cut = f old new _ done.core
talk_keeps keeps goes see f texts count events l m old new (Err fault) done cut = f old new _ cut.core

-- a run whose turns ended well ended well
pub ends_ok : (ended : Result Unit ServeFault) (run : Result Unit RunFault) (P Q : Type 0) → (P → Q) → RunEnds ended run → OnOk ended P → OnOk run Q
ends_ok (Ok x) run P Q f is h = subst (λ (r : Result Unit RunFault). OnOk r Q) (sym is) (f h)
ends_ok (Err serve.Link) run P Q f is h = absurd is
ends_ok (Err serve.Drum) run P Q f is h = subst (λ (r : Result Unit RunFault). OnOk r Q) (sym is) tt
ends_ok (Err serve.Disk) run P Q f is h = subst (λ (r : Result Unit RunFault). OnOk r Q) (sym is) tt
ends_ok (Err serve.NoMemory) run P Q f is h = absurd is

-- the first files could not be written
none_at_start : (base : Script) → (record_so_far (start_of base)).entries ≡ []
unfolding start_of
none_at_start base = refl

pub lost_at_start : (base : Script) (port turns : ℕ) (was now : MediaSeen) (a b : LinkSeen) (rec : Record) → b ≡ a → now.drum_calls ≡ was.drum_calls → rec ≡ record_so_far (start_of base) → Rose was.disk_faults now.disk_faults
    → IsLost base port turns was now a b rec
lost_at_start base port turns was now a b rec same uncalled is rose =
    record {
      lacks = AtStart same uncalled is;
      counted = counted_same [] rec.entries was.drum_calls now.drum_calls (ap (λ (r : Record). r.entries) is ∙ none_at_start base) uncalled;
      bare = no_files_so_far rec (start_of base) is;
      cause = rose;
    }

-- a run whose first files could not be written
pub hosts_unbegun : (base : Script) (port turns : ℕ) (was now : MediaSeen) (l m : LinkSeen) (wrote : Result Unit StepFault) (fault : StepFault) (bare : Bare) (back : BackState) → m ≡ l → wrote ≡ Err fault → IsBegun base was wrote (whole_of bare back)
    → back.calls ≡ now.drum_calls → back.disk_faults ≡ now.disk_faults → (result : Result Served ServingFault) → IfOk result (λ s. (fault ≡ DiskFault) × (s ≡ DiskFailed (record_so_far (run_with no_places bare)))) → Hosts base port turns was now l m result
hosts_unbegun base port turns was now l m wrote fault bare back same is begun calls disk (Ok s) e =
    subst (IsServed base port turns was now l m) (sym e.1)
    (lost_at_start base port turns was now l m (record_so_far (run_with no_places bare)) same (sym calls ∙ begun.calls) begun.shown
    (subst (Rose was.disk_faults) disk (begun.cause (subst (λ (w : Result Unit StepFault). IsErrOf w DiskFault) (sym is) (ap Err e.0)))))
hosts_unbegun base port turns was now l m wrote fault bare back same is begun calls disk (Err f) e = BeforeTurns (sym calls ∙ begun.calls) same

-- and one whose listener could not be opened
pub hosts_unopened : (base : Script) (port turns : ℕ) (was now : MediaSeen) (l m : LinkSeen) (wrote : Result Unit StepFault) (bare : Bare) (back : BackState) → Did (DidOpen port true) l m → IsBegun base was wrote (whole_of bare back)
    → back.calls ≡ now.drum_calls → HasSpent base port turns was now l m
hosts_unopened base port turns was now l m wrote bare back opened begun calls = NotOpened (sym calls ∙ begun.calls) opened

-- nothing was called
pub spent_nothing : (base : Script) (port turns : ℕ) (m : MediaSeen) (l : LinkSeen) → HasSpent base port turns m m l l
spent_nothing base port turns m l = BeforeTurns refl refl

pub on_err : {T E : Type 0} (r : Result T E) (P : Type 0) → P → OnErr r P
on_err (Ok x) P h = tt
on_err (Err e) P h = h

pub on_ok_map : {T E : Type 0} (r : Result T E) (P Q : Type 0) → (P → Q) → OnOk r P → OnOk r Q
on_ok_map (Ok x) P Q f h = f h
on_ok_map (Err e) P Q f h = tt

pub served_of : (base : Script) (port turns : ℕ) (was now : MediaSeen) (a b : LinkSeen) (r : Result Served ServingFault) → Hosts base port turns was now a b r → IfOk r (IsServed base port turns was now a b)
served_of base port turns was now a b (Ok s) h = h
served_of base port turns was now a b (Err f) h = tt

pub spent_of : (base : Script) (port turns : ℕ) (was now : MediaSeen) (a b : LinkSeen) (r : Result Served ServingFault) → Hosts base port turns was now a b r → OnErr r (HasSpent base port turns was now a b)
spent_of base port turns was now a b (Ok s) h = tt
spent_of base port turns was now a b (Err f) h = h

-- a call that failed, and one that didn't
pub err_of : {T E : Type 0} (r : Result T E) (P : Type 0) → is_err r ≡ true → OnErr r P → P
err_of (Ok x) P is h = cc
err_of (Err e) P is h = h

pub ok_of : {T E : Type 0} (r : Result T E) (P : Type 0) → is_err r ≡ false → OnOk r P → P
ok_of (Ok x) P is h = h
ok_of (Err e) P is h = cc
