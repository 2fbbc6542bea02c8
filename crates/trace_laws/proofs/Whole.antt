-- The trace of a program is the transcript of a script's record, and its states are moments of the script's run.
use Rattle.std.proofs.Common.{◌≡◌, ℕ, zero, suc, ◌<◌, ◌≤◌, Bool, true, false, ◌&&◌, List, [], ◌∷◌, length, map}
use Rattle.std.proofs.Common.{refl, sym, ap, subst, ◌∙◌, arith}
use Rattle.std.specs.Prelude.{codes}
use Rattle.std.proofs.lemmas.List.Elements.{All-cons, All-nil}
use Rattle.ctss_types.specs.declared.file.FileBody.{FileBody}
use Rattle.ctss_types.specs.declared.script.Account.{Account}
use Rattle.file_model.specs.Owned.{files_of}
use Rattle.time_sharing.specs.Machine.{Line, Item}
use Rattle.time_sharing.specs.System.{Off, Session}
use Rattle.user_model.specs.Session.{first_state, works_in}
use Rattle.user_model.specs.User.{User, opened, can_step}
use Rattle.system_model.specs.Run.{Run, ended}
use Rattle.system_model.specs.Record.{start_of, record_of}
use Rattle.system_model.specs.Cases.{closed}
use Rattle.system_model.proofs.RunLaws.{after_none, run_to_done}
use Rattle.system_model.proofs.CaseLaws.{closes}
use Rattle.fair_laws.specs.Waits.{IsUsual}
use Rattle.program_trace.specs.Lone.{TracedUser, tracer, deck_files, begun, stepped, goes_on, gone, loaded}
use Rattle.program_trace.specs.Programs.{most_lines}
use Rattle.program_trace.specs.Traces.{traced}
use Rattle.program_trace.proofs.Sessions.{own_rises, begun_can, begun_own, opened_lines}
use Rattle.program_trace.proofs.States.{gone_on, gone_still}
use Rattle.trace_laws.specs.Scripts.{alone_script, owned_by_first, types_at_once, session_lines}
use Rattle.trace_laws.specs.Laws.{ticks_of_trace, TracesAreRuns, TracesAreTranscripts}
use Rattle.trace_laws.proofs.Moments.{Follows, HasOne, moves_on}
use Rattle.trace_laws.proofs.Events.{Hears, dialled, named, logged_in, lines_kept}
use Rattle.trace_laws.proofs.Queues.{has_one}
use Rattle.trace_laws.proofs.Texts.{steps_show}

-- the steps of a program

same_state : (a : TracedUser) → gone 0 a ≡ a
unfolding gone
same_state a = refl

own_of : TracedUser → ℕ
own_of a = a.user.own

-- steps don't become fewer
own_grows : (n : ℕ) (a : TracedUser) → a.user.own ≤ (gone n a).user.own
unfolding own_of
own_grows zero a = omega (arith, ap own_of (same_state a))
own_grows (suc n) a = by_test (goes_on a) refl (own_grows n (stepped a))
  where
    by_test : (b : Bool) → goes_on a ≡ b → (stepped a).user.own ≤ (gone n (stepped a)).user.own
        → a.user.own ≤ (gone (suc n) a).user.own
    by_test true on rest = omega (arith, rest, own_rises a, ap own_of (gone_on n a on))
    by_test false still rest = omega (arith, ap own_of (gone_still (suc n) a still))

-- a program that goes on can step
can_go : (a : TracedUser) → goes_on a ≡ true → can_step a.user ≡ true
can_go a h = both (works_in a.user.inner.state) (can_step a.user) h
  where
    both : (b c : Bool) → (b && c) ≡ true → c ≡ true
    both true c h = h
    both false c h = cc

module _ (limit : ℕ) (start : Run) (one : HasOne limit start) where
  -- says that the run comes to this state
  abbrev Comes : TracedUser → Type 0
  Comes a = (r : Run) × Follows limit start a r

  -- the run comes to each state of a program to which the limit leaves time
  follows : (n : ℕ) (a : TracedUser) → Comes a → (gone n a).user.own ≤ limit → Comes (gone n a)
  follows zero a c within = subst Comes (sym (same_state a)) c
  follows (suc n) a c within = by_test (goes_on a) refl (λ d left. follows n (stepped a) d left)
    where
      by_test : (b : Bool) → goes_on a ≡ b
          → (Comes (stepped a) → (gone n (stepped a)).user.own ≤ limit → Comes (gone n (stepped a)))
          → Comes (gone (suc n) a)
      by_test true on rest =
          let left = subst (λ (b : TracedUser). b.user.own ≤ limit) (gone_on n a on) within in
          let early : a.user.own < limit = omega (arith, left, own_rises a, own_grows n (stepped a)) in
          subst Comes (sym (gone_on n a on)) (rest (moves_on limit start one a c.0 c.1 (can_go a on) early) left)
      by_test false still rest = subst Comes (sym (gone_still (suc n) a still)) c

-- the start of the script

first_files : (files : List FileBody) → files_of 1 (map owned_by_first files) ≡ files
first_files [] = refl
first_files (f ∷ files) = ap (λ (fs : List FileBody). f ∷ fs) (first_files files)

all_typed : (limit : ℕ) (start : Run) (deck : List ℕ) (lines : List Line) (r : Run)
    → Hears limit start (Session 1) (begun deck lines).user [] r → Follows limit start (begun deck lines) r
all_typed limit start deck lines r h =
    record {
      reached = h.reached;
      swap = h.swap;
      quota = h.quota;
      events = h.events;
      served = λ v is. let none = h.service in cc;
      state = record { users = h.users; common = h.common; clock = h.clock ∙ sym (begun_own deck lines) };
    }

module _ (wq quantum end : ℕ) (deck : List ℕ) (lines : List Line) where
  start : Run
  start = start_of (alone_script wq quantum deck lines end)

  usual : 0 < quantum → IsUsual (alone_script wq quantum deck lines end)
  usual some =
      let is_small = λ (a : Account). a.blocks ≤ 128 in
      record { quantum = some; blocks = All-cons is_small tracer [] (omega arith) (All-nil is_small) }

  starts :
      Hears end start Off (first_state tracer (deck_files deck)) (alone_script wq quantum deck lines end).events start
  unfolding start start_of
  starts =
      record {
        reached = record { after = after_none end start; rest = refl };
        swap = refl;
        quota = refl;
        accounts = refl;
        users = ap (λ (files : List FileBody). first_state tracer files ∷ []) (first_files (deck_files deck));
        common = refl;
        clock = refl;
        service = refl;
        seats = refl;
        events = refl;
      }

  -- when all is typed no step was done
  begins : 0 < end → length lines ≤ most_lines → (r : Run) × Follows end start (begun deck lines) r
  begins some few =
      let first = first_state tracer (deck_files deck) in
      let asked = codes "LOADGO PROGRM" ∷ lines in
      let a = dialled end start some first (map types_at_once (session_lines lines)) start starts in
      let b = named end start some first (map types_at_once (codes "TRACER" ∷ asked)) a.0 a.1 in
      let c = logged_in end start some first (map types_at_once asked) b.0 b.1 refl in
      let d = lines_kept end start some asked (opened first) c.0 c.1 (omega (arith, few, opened_lines first)) in
      (d.0, all_typed end start deck lines d.0 d.1)

  -- LOADGO is done and the core filled, and then the steps
  reaches : (n : ℕ) → 0 < quantum → length lines ≤ most_lines → ticks_of_trace n deck lines ≤ end
      → (r : Run) × Follows end start (gone n (loaded deck lines)) r
  unfolding start
  reaches n some few within =
      let one : HasOne end start = has_one (alone_script wq quantum deck lines end) (usual some) refl refl in
      let asked = begun deck lines in
      let grown : (loaded deck lines).user.own ≤ end = omega (arith, within, own_grows n (loaded deck lines)) in
      let early : asked.user.own < end = omega (arith, grown, own_rises asked, own_grows 1 (stepped asked)) in
      let a = begins (omega (arith, early)) few in
      let b = moves_on end start one asked a.0 a.1 (begun_can deck lines) early in
      follows end start one n (loaded deck lines) (follows end start one 1 (stepped asked) b grown) within

-- the laws

pub traces_are_runs : TracesAreRuns
unfolding start
traces_are_runs wq quantum n end deck lines some few within =
    let r = reaches wq quantum end deck lines n some few within in
    (r.0, r.1.reached.after, r.1.state)

-- the end of a record changes no user
ended_users : (r : Run) → (ended r).system.users ≡ r.system.users
unfolding closed
ended_users r = ap (λ (x : Run). x.system.users) (closes r)

pub traces_are_transcripts : TracesAreTranscripts
unfolding start record_of traced
traces_are_transcripts wq quantum n deck lines some few =
    let end = ticks_of_trace n deck lines in
    let transcripts_of = λ (users : List User). map (λ (p : User). p.transcript) users in
    let r = reaches wq quantum end deck lines n some few (omega arith) in
    let over : end ≤ r.0.system.clock = omega (arith, r.1.state.clock) in
    let whole = r.1.reached.rest ∙ run_to_done end r.0 over in
    ap (λ (x : Run). transcripts_of (ended x).system.users) whole
    ∙ ap transcripts_of (ended_users r.0 ∙ r.1.state.users)
    ∙ ap (λ (items : List Item). items ∷ []) (steps_show n (loaded deck lines))
