-- The events at tick 0: the one user logs in, and what is typed lies unread.
use Rattle.std.proofs.Common.{◌≡◌, ℕ, suc, ◌+◌, ◌<◌, ◌≤◌, false, List, [], ◌∷◌, length, map, set, drop, replicate}
use Rattle.std.proofs.Common.{Some, None, refl, sym, ap, subst, ◌∙◌, arith}
use Rattle.std.specs.Prelude.{get_or, codes, fold}
use Rattle.ctss_types.specs.Words.{name_of}
use Rattle.ctss_types.specs.declared.script.Account.{Account}
use Rattle.time_sharing.specs.Machine.{Line}
use Rattle.time_sharing.specs.System.{Timed, Console, Off, On, Password, Session, Event, Dials, Types}
use Rattle.time_sharing.specs.System.{Entry, EventKind, DialTaken, LineTaken}
use Rattle.user_model.specs.User.{User, typed, opened}
use Rattle.system_model.specs.World.{asked, check}
use Rattle.system_model.specs.Run.{Run, next, at_console, by_due, due_of}
use Rattle.system_model.specs.Cases.{heard, line_taken, login_taken, user_at, with_user}
use Rattle.system_model.proofs.CaseLaws.{next_due, taken_at, off_dials, on_name, logs_in, in_types}
use Rattle.program_trace.specs.Lone.{track_quota, tracer}
use Rattle.trace_laws.specs.Scripts.{at_once, types_at_once}
use Rattle.trace_laws.proofs.Moments.{Reaches, reaches_next}

-- says that a run comes to a moment before any tick, of this user alone, its console and the events to come
pub record Hears (limit : ℕ) (start : Run) (seat : Console) (p : User) (es : List Timed) (r : Run) : Type 0 where
  pub reached : Reaches limit start r
  pub swap : r.swap ≡ 0
  pub quota : r.common ≡ track_quota
  pub accounts : r.accounts ≡ tracer ∷ []
  pub users : r.system.users ≡ p ∷ []
  pub common : r.system.files ≡ []
  pub clock : r.system.clock ≡ 0
  pub service : r.system.service ≡ None
  pub seats : r.system.consoles ≡ seat ∷ replicate 31 Off
  pub events : r.system.events ≡ es

-- a line more counts as one
typed_lines : (p : User) (l : Line) → (typed l p).lines ≡ suc p.lines
unfolding typed
typed_lines p l = refl

-- the name that the login asks for, and whose name and password they are

abbrev tracer_name : ℕ
tracer_name = name_of (codes "TRACER")

asks_name : asked (codes "LOGIN TRACER") ≡ Some tracer_name
unfolding asked
asks_name = refl

checks : check (tracer ∷ []) tracer_name (codes "TRACER") ≡ Some 1
unfolding check name_of
checks = refl

module _ (limit : ℕ) (start : Run) (some : 0 < limit) where
  -- the event is taken at the console
  comes : (seat : Console) (p : User) (e : Event) (es : List Timed) (r : Run)
      → Hears limit start seat p (at_once e ∷ es) r → next limit r ≡ at_console 1 seat e r
  comes seat p e es r h =
      next_due limit r
      ∙ (λ j. by_due limit (due_of (h.events j) (h.clock j)) r)
      ∙ taken_at (at_once e) r (omega arith)
      ∙ ap (λ (cs : List Console). at_console 1 (get_or cs 0 Off) e r) h.seats

  reached_by : (seat : Console) (p : User) (e : Event) (es : List Timed) (r s : Run)
      → Hears limit start seat p (at_once e ∷ es) r → at_console 1 seat e r ≡ s → Reaches limit start s
  reached_by seat p e es r s h is =
      let early = subst (λ (t : ℕ). t < limit) (sym h.clock) some in
      reaches_next limit start r s h.reached early (comes seat p e es r h ∙ is)

  -- an event that no session hears
  is_heard : (seat now : Console) (p : User) (e : Event) (es : List Timed) (r : Run) (kind : EventKind)
      → (more : List Entry) → Hears limit start seat p (at_once e ∷ es) r
      → at_console 1 seat e r ≡ heard 1 kind now more r
      → Hears limit start now p es (heard 1 kind now more r)
  unfolding heard
  is_heard seat now p e es r kind more h is =
      record {
        reached = reached_by seat p e es r (heard 1 kind now more r) h is;
        swap = h.swap;
        quota = h.quota;
        accounts = h.accounts;
        users = h.users;
        common = h.common;
        clock = h.clock;
        service = h.service;
        seats = ap (λ (cs : List Console). set cs 0 now) h.seats;
        events = ap (drop 1) h.events;
      }

  pub dialled : (p : User) (es : List Timed) (r : Run) → Hears limit start Off p (at_once Dials ∷ es) r
      → (s : Run) × Hears limit start On p es s
  dialled p es r h =
      let is = off_dials 1 r (omega arith) in
      (heard 1 DialTaken On [] r, is_heard Off On p Dials es r DialTaken [] h is)

  pub named : (p : User) (es : List Timed) (r : Run)
      → Hears limit start On p (types_at_once (codes "LOGIN TRACER") ∷ es) r
      → (s : Run) × Hears limit start (Password tracer_name) p es s
  named p es r h =
      let line = codes "LOGIN TRACER" in
      let now = Password tracer_name in
      let is = on_name 1 line tracer_name r (omega arith) asks_name in
      (heard 1 LineTaken now [] r, is_heard On now p (Types line) es r LineTaken [] h is)

  -- the password opens the session
  pub logged_in : (p : User) (es : List Timed) (r : Run)
      → Hears limit start (Password tracer_name) p (types_at_once (codes "TRACER") ∷ es) r → p.on ≡ false
      → (s : Run) × Hears limit start (Session 1) (opened p) es s
  unfolding login_taken
  logged_in p es r h off =
      let word = codes "TRACER" in
      let right = ap (λ (known : List Account). check known tracer_name word) h.accounts ∙ checks in
      let out = ap (λ (us : List User). (user_at 1 us).on) h.users ∙ off in
      let is = logs_in 1 1 tracer_name word r (omega arith) (omega arith) right out in (
        login_taken 1 1 r,
        record {
          reached = reached_by (Password tracer_name) p (Types word) es r (login_taken 1 1 r) h is;
          swap = h.swap;
          quota = h.quota;
          accounts = h.accounts;
          users = ap (λ (us : List User). with_user 1 (opened (user_at 1 us)) us) h.users;
          common = h.common;
          clock = h.clock;
          service = h.service;
          seats = ap (λ (cs : List Console). set cs 0 (Session 1)) h.seats;
          events = ap (drop 1) h.events;
        },
      )

  -- a line of the session
  line_kept : (l : Line) (p : User) (es : List Timed) (r : Run)
      → Hears limit start (Session 1) p (types_at_once l ∷ es) r → p.lines < 2048
      → Hears limit start (Session 1) (typed l p) es (line_taken 1 1 l r)
  unfolding line_taken
  line_kept l p es r h few =
      let fits = subst (λ (us : List User). (user_at 1 us).lines < 2048) (sym h.users) few in
      let is = in_types 1 1 l r (omega arith) fits in
      record {
        reached = reached_by (Session 1) p (Types l) es r (line_taken 1 1 l r) h is;
        swap = h.swap;
        quota = h.quota;
        accounts = h.accounts;
        users = ap (λ (us : List User). with_user 1 (typed l (user_at 1 us)) us) h.users;
        common = h.common;
        clock = h.clock;
        service = h.service;
        seats = h.seats;
        events = ap (drop 1) h.events;
      }

  -- and all of them
  pub lines_kept : (lines : List Line) (p : User) (r : Run)
      → Hears limit start (Session 1) p (map types_at_once lines) r → p.lines + length lines ≤ 2048
      → (s : Run) × Hears limit start (Session 1) (fold (λ (q : User) (l : Line). typed l q) p lines) [] s
  lines_kept [] p r h few = (r, h)
  lines_kept (l ∷ lines) p r h few =
      let kept = line_kept l p (map types_at_once lines) r h (omega (arith, few)) in
      lines_kept lines (typed l p) (line_taken 1 1 l r) kept (omega (arith, few, typed_lines p l))
