-- The replies in a record are those of one list of files.
use Rattle.std.proofs.Common.{◌≡◌, ℕ, zero, suc, Bool, true, false, nat_lt, nat_le, nat_eq, List, [], ◌∷◌, ◌++◌, Option, Some, None, refl, sym, ap, ◌∙◌, append-nil, append_assoc, if◌then◌else◌}
use Rattle.time_sharing.specs.Machine.{Machine, CutKind, Quit, Hang, Spent, CommonOp, Reply}
use Rattle.time_sharing.specs.System as system
use Rattle.time_sharing.specs.System.{SystemState, World, Timed, Service, Console, Off, On, Password, Session, Dials, Types, Quits, Hangs, Entry, Taken, Login, Refused, Idle, Swap, Rise, Serve, Common, Cause, state_of, next, clock_entry, common_entry, service_entry, cause_of, clock_for}
use Rattle.time_sharing.specs.Repeat.{repeat}
use Rattle.time_sharing.specs.Record.{clock_is_below, iterate, start}
use Rattle.time_sharing.specs.Commons.{operations_of, replies_of, common_run, files_left}

operations-append : (es fs : List Entry) → operations_of (es ++ fs) ≡ operations_of es ++ operations_of fs
operations-append [] fs = refl
operations-append (Common user op reply ∷ es) fs = ap (λ z. op ∷ z) (operations-append es fs)
operations-append (_ ∷ es) fs = operations-append es fs

replies-append : (es fs : List Entry) → replies_of (es ++ fs) ≡ replies_of es ++ replies_of fs
replies-append [] fs = refl
replies-append (Common user op reply ∷ es) fs = ap (λ z. reply ∷ z) (replies-append es fs)
replies-append (_ ∷ es) fs = replies-append es fs

module _ {S P F : Type 0} (m : Machine S) (w : World S P F) where
  run-append : (files : F) (xs ys : List CommonOp) → common_run w files (xs ++ ys) ≡ common_run w files xs ++ common_run w (files_left w files xs) ys
  run-append files [] ys = refl
  run-append files (op ∷ xs) ys = ap (λ z. w.reply_to files op ∷ z) (run-append (w.files_after files op) xs ys)

  left-append : (files : F) (xs ys : List CommonOp) → files_left w files (xs ++ ys) ≡ files_left w (files_left w files xs) ys
  left-append files [] ys = refl
  left-append files (op ∷ xs) ys = left-append (w.files_after files op) xs ys

  -- from one state to the other the files answer the new entries' operations
  record AnswersCommons (s t : SystemState S P F) : Type 0 where
    new : List Entry
    added : t.entries ≡ s.entries ++ new
    replies : replies_of new ≡ common_run w s.files (operations_of new)
    files : t.files ≡ files_left w s.files (operations_of new)

  stays : (s : SystemState S P F) → AnswersCommons s s
  stays s = record { new = []; added = sym (append-nil s.entries); replies = refl; files = refl }

  chain : (s t e : SystemState S P F) → AnswersCommons s t → AnswersCommons t e → AnswersCommons s e
  chain s t e a b =
      record {
        new = a.new ++ b.new;
        added = b.added ∙ ap (λ z. z ++ b.new) a.added ∙ append_assoc s.entries a.new b.new;
        replies = rw (replies-append, operations-append, run-append, a.replies, b.replies, a.files) refl;
        files = rw (operations-append, left-append, b.files, a.files) refl;
      }

  -- entries among which there is no operation
  quiet : (s t : SystemState S P F) (new : List Entry) → t.entries ≡ s.entries ++ new → operations_of new ≡ [] → replies_of new ≡ [] → t.files ≡ s.files → AnswersCommons s t
  quiet s t new a o r f = record { new = new; added = a; replies = r ∙ ap (common_run w s.files) (sym o); files = f ∙ ap (files_left w s.files) (sym o) }

  idling_serves : (s : SystemState S P F) (idling : Option ℕ) → AnswersCommons s (system.end_idling_of m w idling s)
  idling_serves s None = stays s
  idling_serves s (Some from) = quiet s _ (Idle from s.clock ∷ []) refl refl refl refl

  ended_serves : (s : SystemState S P F) (cause : Cause) (v : Service) → AnswersCommons s (system.end_service m w cause v s)
  ended_serves s cause v = quiet s _ (Serve v.tick v.user v.level v.ran cause ∷ []) refl refl refl refl

  preempt_serves : (s : SystemState S P F) (v : Service) → AnswersCommons s (system.preempt m w v s)
  preempt_serves s v = quiet s _ (Serve v.tick v.user v.level v.ran system.Preempt ∷ []) refl refl refl refl

  stop_serves : (s : SystemState S P F) (v : ℕ) (service : Option Service) → AnswersCommons s (system.stop_served_of m w service v s)
  stop_serves s v None = stays s
  stop_serves s v (Some x) = elim (nat_eq x.user v) as (λ b. AnswersCommons s (if b then system.end_service m w system.Stop x s else s)) [ true ↦ ended_serves s system.Stop x | false ↦ stays s ]

  heard_serves : (s : SystemState S P F) (c : ℕ) (kind : system.EventKind) (now : Console) (more : List Entry) → operations_of more ≡ [] → replies_of more ≡ [] → AnswersCommons s (system.heard m w c kind now more s)
  heard_serves s c kind now more o r = quiet s _ (Taken s.clock c kind 0 0 ∷ more) refl o r refl

  cut_serves : (s : SystemState S P F) (kind : CutKind) (c v : ℕ) → AnswersCommons s (system.cut_at m w kind c v (system.stop_served m w v s))
  cut_serves s kind c v =
      let t = system.stop_served m w v s in
      chain s t _ (stop_serves s v s.service) (quiet t _ (Taken t.clock c (system.kind_of kind) v (m.own (state_of m w t v)) ∷ []) refl refl refl refl)

  console_serves : (c : ℕ) (console : Console) (event : system.Event) (s : SystemState S P F) → AnswersCommons s (system.at_console m w c console event s)
  console_serves c Off Dials s = heard_serves s c _ _ [] refl refl
  console_serves c Off (Types l) s = heard_serves s c _ _ [] refl refl
  console_serves c Off Quits s = heard_serves s c _ _ [] refl refl
  console_serves c Off Hangs s = heard_serves s c _ _ [] refl refl
  console_serves c On Dials s = heard_serves s c _ _ [] refl refl
  console_serves c On (Types l) s = elim (w.asked l) as (λ n. AnswersCommons s (system.asks_in m w c n s)) [ None ↦ heard_serves s c _ _ (Refused s.clock c 1 ∷ []) refl refl | Some n ↦ heard_serves s c _ _ [] refl refl ]
  console_serves c On Quits s = heard_serves s c _ _ [] refl refl
  console_serves c On Hangs s = heard_serves s c _ _ [] refl refl
  console_serves c (Password name) Dials s = heard_serves s c _ _ [] refl refl
  console_serves c (Password name) (Types l) s =
      elim (w.check name l) as (λ n. AnswersCommons s (system.logs_in m w c n s)) [
        | None ↦ heard_serves s c _ _ (Refused s.clock c 1 ∷ []) refl refl
        | Some v ↦ elim (m.is_open (state_of m w s v)) as (λ b. AnswersCommons s (if b then system.heard m w c system.LineTaken On (system.Refused s.clock c 2 ∷ []) s else system.opens m w c v s))
            [ true ↦ heard_serves s c _ _ (Refused s.clock c 2 ∷ []) refl refl | false ↦ quiet s _ (Taken s.clock c system.LineTaken 0 0 ∷ Login s.clock c v ∷ []) refl refl refl refl ]
      ]
  console_serves c (Password name) Quits s = heard_serves s c _ _ [] refl refl
  console_serves c (Password name) Hangs s = heard_serves s c _ _ [] refl refl
  console_serves c (Session v) Dials s = quiet s _ (Taken s.clock c system.DialTaken v (m.own (state_of m w s v)) ∷ []) refl refl refl refl
  console_serves c (Session v) (Types l) s =
      elim (nat_lt (m.lines (state_of m w s v)) system.max_lines) as (λ b. AnswersCommons s (if b then system.line_at m w c v l s else system.cut_at m w Spent c v (system.stop_served m w v s)))
      [ true ↦ quiet s _ (Taken s.clock c system.LineTaken v (m.own (state_of m w s v)) ∷ []) refl refl refl refl | false ↦ cut_serves s Spent c v ]
  console_serves c (Session v) Quits s = cut_serves s Quit c v
  console_serves c (Session v) Hangs s = cut_serves s Hang c v

  taken_serves : (e : Timed) (rest : List Timed) (s : SystemState S P F) → AnswersCommons s (system.taken m w e rest s)
  taken_serves e rest s =
      let r = record s { events = rest } in
      let t = system.end_idling_of m w s.idling r in
      chain s t _ (chain s r t (quiet s r [] (sym (append-nil s.entries)) refl refl refl) (idling_serves r s.idling)) (console_serves e.console (system.at Off t.consoles e.console) e.event t)

  -- the entries of one step of a user
  asked_list : Option CommonOp → List CommonOp
  asked_list None = []
  asked_list (Some op) = op ∷ []

  replied_list : Option CommonOp → Reply → List Reply
  replied_list None r = []
  replied_list (Some op) r = r ∷ []

  step_operations : (b : Bool) (t u : ℕ) (c : Option CommonOp) (r : Reply) (v : Service) (cause : Option Cause) → operations_of (clock_entry b t u ++ (common_entry c u r ++ service_entry v cause)) ≡ asked_list c
  unfolding asked_list
  step_operations false t u None r v None = refl
  step_operations false t u None r v (Some cause) = refl
  step_operations false t u (Some op) r v None = refl
  step_operations false t u (Some op) r v (Some cause) = refl
  step_operations true t u None r v None = refl
  step_operations true t u None r v (Some cause) = refl
  step_operations true t u (Some op) r v None = refl
  step_operations true t u (Some op) r v (Some cause) = refl

  step_replies : (b : Bool) (t u : ℕ) (c : Option CommonOp) (r : Reply) (v : Service) (cause : Option Cause) → replies_of (clock_entry b t u ++ (common_entry c u r ++ service_entry v cause)) ≡ replied_list c r
  unfolding replied_list
  step_replies false t u None r v None = refl
  step_replies false t u None r v (Some cause) = refl
  step_replies false t u (Some op) r v None = refl
  step_replies false t u (Some op) r v (Some cause) = refl
  step_replies true t u None r v None = refl
  step_replies true t u None r v (Some cause) = refl
  step_replies true t u (Some op) r v None = refl
  step_replies true t u (Some op) r v (Some cause) = refl

  replied_run : (files : F) (c : Option CommonOp) → replied_list c (system.reply_for m w files c) ≡ common_run w files (asked_list c)
  unfolding asked_list replied_list
  replied_run files None = refl
  replied_run files (Some op) = refl

  files_run : (files : F) (c : Option CommonOp) → system.files_for m w files c ≡ files_left w files (asked_list c)
  unfolding asked_list
  files_run files None = refl
  files_run files (Some op) = refl

  goes_serves : (s : SystemState S P F) (v : Service) (p : S) → AnswersCommons s (system.goes m w v p s)
  goes_serves s v p =
      let b = m.asks_clock p in
      let c = m.asks_common p in
      let r = system.reply_for m w s.files c in
      let cause = cause_of (m.ending p (clock_for b s.clock) r) (w.time_left s.plan v.user) in
      record {
        new = clock_entry b s.clock v.user ++ (common_entry c v.user r ++ service_entry v cause);
        added = refl;
        replies = step_replies b s.clock v.user c r v cause ∙ replied_run s.files c ∙ ap (common_run w s.files) (sym (step_operations b s.clock v.user c r v cause));
        files = files_run s.files c ∙ ap (files_left w s.files) (sym (step_operations b s.clock v.user c r v cause));
      }

  stepped_serves : (s : SystemState S P F) (x : Service) → AnswersCommons s (system.stepped m w x s)
  stepped_serves s x =
      elim (m.can_step (state_of m w s x.user)) as (λ b. AnswersCommons s (if b then system.goes m w x (state_of m w s x.user) s else system.waits m w x (state_of m w s x.user) s)) [
        | true ↦ goes_serves s x (state_of m w s x.user)
        | false ↦ quiet s _ (Serve x.tick x.user x.level (suc x.ran) system.Wait ∷ []) refl refl refl refl
      ]

  attended_serves : (s : SystemState S P F) (x : Service) → AnswersCommons s (system.attended m w x s)
  attended_serves s x =
      elim (w.must_load s.plan x.user (state_of m w s x.user)) as (λ b. AnswersCommons s (if b then system.swapped m w x.user s else system.stepped m w x s)) [
        | true ↦ quiet s _ (Swap _ _ _ _ _ ∷ []) refl refl refl refl
        | false ↦ stepped_serves s x
      ]

  otherwise_serves : (limit : ℕ) (s : SystemState S P F) (chosen : Option ℕ) (service : Option Service) → AnswersCommons s (system.otherwise m w limit chosen service s)
  otherwise_serves limit s None None = quiet s _ [] (sym (append-nil s.entries)) refl refl refl
  otherwise_serves limit s None (Some x) = preempt_serves s x
  otherwise_serves limit s (Some v) None = attended_serves s _
  otherwise_serves limit s (Some v) (Some x) =
      elim (nat_eq x.user v) as (λ b. AnswersCommons s (if b then system.attended m w x s else system.preempt m w x s)) [ true ↦ attended_serves s x | false ↦ preempt_serves s x ]

  quiet_serves : (limit : ℕ) (s : SystemState S P F) (x : Option (ℕ × ℕ)) → AnswersCommons s (system.quiet_by m w limit x s)
  quiet_serves limit s None = otherwise_serves limit s (w.choose s.plan) s.service
  quiet_serves limit s (Some x) = quiet s _ (Rise _ _ _ ∷ []) refl refl refl refl

  next_serves : (limit : ℕ) (s : SystemState S P F) (events : List Timed) → AnswersCommons s (system.next_by m w limit events s)
  next_serves limit s [] = quiet_serves limit s _
  next_serves limit s (e ∷ rest) =
      elim (nat_le e.tick s.clock) as (λ b. AnswersCommons s (if b then system.taken m w e rest s else system.quiet m w limit s)) [ true ↦ taken_serves e rest s | false ↦ quiet_serves limit s _ ]

  iterate_serves : (limit n : ℕ) (s : SystemState S P F) → AnswersCommons s (iterate m w limit n s)
  iterate_serves limit zero s = stays s
  iterate_serves limit (suc n) s =
      elim (nat_lt s.clock limit) as (λ b. AnswersCommons s (elim b [ true ↦ repeat (clock_is_below m w limit) (next m w limit) n (next m w limit s) | false ↦ s ])) [
        | true ↦ chain s (next m w limit s) _ (next_serves limit s s.events) (iterate_serves limit n (next m w limit s))
        | false ↦ stays s
      ]

  end_serves : (s : SystemState S P F) → AnswersCommons s (system.ended m w s)
  end_serves s =
      let t = system.end_open m w s.service s in
      chain s t _ (by_service s.service) (idling_serves t t.idling)
    where
      by_service : (service : Option Service) → AnswersCommons s (system.end_open m w service s)
      by_service None = stays s
      by_service (Some x) = ended_serves s system.AtEnd x

  -- in the whole record
  pub common_replies : (firsts : List S) (files : F) (plan : P) (consoles limit n : ℕ) (events : List Timed) →
      let e = system.ended m w (iterate m w limit n (start m w firsts files plan consoles events)) in
      (replies_of e.entries ≡ common_run w files (operations_of e.entries)) × (e.files ≡ files_left w files (operations_of e.entries))
  common_replies firsts files plan consoles limit n events =
      let s = start m w firsts files plan consoles events in
      let t = iterate m w limit n s in
      let h = chain s t (system.ended m w t) (iterate_serves limit n s) (end_serves t) in
      (ap replies_of h.added ∙ h.replies ∙ ap (λ z. common_run w files (operations_of z)) (sym h.added), h.files ∙ ap (λ z. files_left w files (operations_of z)) (sym h.added))
