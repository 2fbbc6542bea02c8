-- What the entries of a run cover at each moment, and at the end of its record: the invariant of a step, for any world.
use Rattle.std.proofs.Common.{◌≡◌, ◌≢◌, ℕ, zero, suc, ◌+◌, ◌*◌, ◌<◌, ◌≤◌, Bool, true, false, if◌then◌else◌}
use Rattle.std.proofs.Common.{nat_lt, nat_le, List, [], ◌∷◌, ◌++◌, Option, Some, None, inl, inr}
use Rattle.std.proofs.Common.{refl, sym, ap, subst, ◌∙◌, arith, ltb-true, leb-false}
use Rattle.std.proofs.lemmas.Bool.Decides.{eqb_tells}
use Rattle.time_sharing.specs.Machine.{Machine, Line, CutKind, Quit, Hang, Spent, CommonOp, Reply}
use Rattle.time_sharing.specs.Machine.{Ending, Went, Stopped, Resized, Replaced, LoggedOut}
use Rattle.time_sharing.specs.System as system
use Rattle.time_sharing.specs.System.{SystemState, World, Timed, Service, Console, Off, On, Password, Session, Cause}
use Rattle.time_sharing.specs.System.{Dials, Types, Quits, Hangs, LineTaken, DialTaken, Stop, Wait, Preempt, AtEnd}
use Rattle.time_sharing.specs.System.{Entry, Taken, Login, Refused, Idle, Swap, Rise, Serve}
use Rattle.time_sharing.specs.System.{at, put, state_of, next, next_tick, cause_of, clock_for}
use Rattle.time_sharing.specs.System.{clock_entry, common_entry}
use Rattle.time_sharing.specs.Repeat.{repeat}
use Rattle.time_sharing.specs.Record.{clock_is_below, iterate, start}
use Rattle.time_sharing.proofs.Tables.{at-put_other, put_was}
use Rattle.record_laws.specs.Spans.{Span, spans, JoinFrom}
use Rattle.record_laws.specs.Worlds.{StaysLoaded, Costs}
use Rattle.record_laws.specs.Laws.{AllTicksJoin}
use Rattle.record_laws.proofs.Sums.{joins-append, joined_sum}

-- where the open service or the open idling began, or else now
abbrev begun : Option Service → Option ℕ → ℕ → ℕ
begun (Some v) idling now = v.tick
begun None (Some from) now = from
begun None None now = now

begun_served : (o : Option Service) (idling : Option ℕ) (now : ℕ) (v : Service) → o ≡ Some v
    → begun o idling now ≡ v.tick
begun_served o idling now v is = ap (λ (x : Option Service). begun x idling now) is

begun_idle : (o : Option Service) (idling : Option ℕ) (now from : ℕ) → o ≡ None → idling ≡ Some from
    → begun o idling now ≡ from
begun_idle o idling now from none is =
    ap (λ (x : Option Service). begun x idling now) none ∙ ap (λ (x : Option ℕ). begun None x now) is

begun_now : (o : Option Service) (idling : Option ℕ) (now : ℕ) → o ≡ None → idling ≡ None → begun o idling now ≡ now
begun_now o idling now none rests =
    ap (λ (x : Option Service). begun x idling now) none ∙ ap (λ (x : Option ℕ). begun None x now) rests

same_begun : (o p : Option Service) (i j : Option ℕ) (now later : ℕ) → o ≡ p → i ≡ j → now ≡ later
    → begun o i now ≡ begun p j later
same_begun o p i j now later services idlings clocks =
    ap (λ (x : Option Service). begun x i now) services ∙ ap (λ (x : Option ℕ). begun p x now) idlings
    ∙ ap (begun p j) clocks

pub same_number : (x y : ℕ) → Some x ≡ Some y → x ≡ y
same_number x y e = cc

pub same_service : (x y : Service) → Some x ≡ Some y → x ≡ y
same_service x y e = cc

-- what holds of a user's state still does after a write, where it holds of what is written
pub put_keeps : {S : Type 0} (Q : S → Type 0) (d : S) (xs : List S) (u v : ℕ) (a : S) → Q (at d xs v) → (u ≡ v → Q a)
    → Q (at d (put xs u a) v)
put_keeps Q d xs u v a h k =
    elim (eqb_tells v u) [
      | inl e ↦
          elim (put_was d xs u v a (at d (put xs u a) v) refl) [ inl p ↦ subst Q p (k (sym e.1)) | inr p ↦ subst Q p h ]
      | inr e ↦ subst Q (sym (at-put_other d xs u v a e.1)) h
    ]

-- what stands before the end of a service in a step covers nothing
before_service : (swap : ℕ) (b : Bool) (t u : ℕ) (c : Option CommonOp) (r : Reply) (more : List Entry)
    → spans swap (clock_entry b t u ++ (common_entry c u r ++ more)) ≡ spans swap more
before_service swap false t u None r more = refl
before_service swap false t u (Some op) r more = refl
before_service swap true t u None r more = refl
before_service swap true t u (Some op) r more = refl

-- a service that goes on after a step
pub goes_on_went : (e : Ending) (left : Bool) → cause_of e left ≡ None → e ≡ Went
goes_on_went Went left h = refl
goes_on_went Stopped left h = cc
goes_on_went Resized left h = cc
goes_on_went Replaced left h = cc
goes_on_went LoggedOut left h = cc

module _ {S P F : Type 0} (m : Machine S) (w : World S P F) (swap limit : ℕ) where
  -- a user is loaded
  abbrev Loaded : SystemState S P F → ℕ → Type 0
  Loaded s u = w.must_load s.plan u (state_of m w s u) ≡ false

  as_user : (s : SystemState S P F) (u v : ℕ) → u ≡ v → Loaded s v → w.must_load s.plan v (state_of m w s u) ≡ false
  as_user s u v same h = subst (λ (x : ℕ). w.must_load s.plan v (state_of m w s x) ≡ false) (sym same) h

  -- The entries so far cover all until the open service, the open idling or now. Who is being served is loaded, and
  -- then nothing idles; and idling lasts just until the next event, so that nobody rises or is chosen before it ends.
  record Covered (s : SystemState S P F) : Type 0 where
    joined : JoinFrom 0 (spans swap s.entries) (begun s.service s.idling s.clock)
    ran : (v : Service) → s.service ≡ Some v → v.tick + v.ran ≡ s.clock
    loaded : (v : Service) → s.service ≡ Some v → Loaded s v.user
    awake : (v : Service) → s.service ≡ Some v → s.idling ≡ None
    past : (from : ℕ) → s.idling ≡ Some from → from ≤ s.clock
    due : (from : ℕ) → s.idling ≡ Some from → next_tick limit s.events ≤ s.clock

  -- the entries cover all until a tick
  abbrev CoverUntil : SystemState S P F → ℕ → Type 0
  CoverUntil s until = JoinFrom 0 (spans swap s.entries) until

  -- after new entries
  joined_by : (s t : SystemState S P F) (new : List Entry) (b : ℕ) → t.entries ≡ s.entries ++ new → Covered s
      → JoinFrom (begun s.service s.idling s.clock) (spans swap new) b → CoverUntil t b
  joined_by s t new b e i h =
      subst (λ (es : List Entry). JoinFrom 0 (spans swap es) b) (sym e)
      (joins-append swap 0 _ b s.entries new i.joined h)

  -- nothing is open
  closed : (t : SystemState S P F) → t.service ≡ None → t.idling ≡ None → CoverUntil t t.clock → Covered t
  closed t none rests h =
      record {
        joined = subst (CoverUntil t) (sym (begun_now t.service t.idling t.clock none rests)) h;
        ran = λ v e. cc (none, e);
        loaded = λ v e. cc (none, e);
        awake = λ v e. rests;
        past = λ from e. cc (rests, e);
        due = λ from e. cc (rests, e);
      }

  -- entries that cover nothing
  noted_keeps : (s t : SystemState S P F) (new : List Entry) → t.entries ≡ s.entries ++ new → spans swap new ≡ []
      → t.clock ≡ s.clock → t.service ≡ s.service → t.idling ≡ s.idling → s.idling ≡ None
      → ((v : Service) → s.service ≡ Some v → Loaded s v.user → Loaded t v.user)
      → Covered s → Covered t
  noted_keeps s t new added none clock service idling rests load i =
      let here = begun s.service s.idling s.clock in
      let same : here ≡ begun t.service t.idling t.clock =
      same_begun s.service t.service s.idling t.idling s.clock t.clock (sym service) (sym idling) (sym clock) in
      record {
        joined =
            joined_by s t new _ added i
            (subst (λ (xs : List Span). JoinFrom here xs (begun t.service t.idling t.clock)) (sym none) same);
        ran = λ v e. i.ran v (sym service ∙ e) ∙ sym clock;
        loaded = λ v e. load v (sym service ∙ e) (i.loaded v (sym service ∙ e));
        awake = λ v e. idling ∙ rests;
        past = λ from e. cc (idling, rests, e);
        due = λ from e. cc (idling, rests, e);
      }

  -- an open service has ended
  ends_service : (s t : SystemState S P F) (v : Service) (cause : Cause) → s.service ≡ Some v
      → t.entries ≡ s.entries ++ Serve v.tick v.user v.level v.ran cause ∷ []
      → t.clock ≡ s.clock → t.service ≡ None → t.idling ≡ s.idling → Covered s → Covered t
  ends_service s t v cause is added clock service idling i =
      let here = sym (begun_served s.service s.idling s.clock v is) in
      closed t service (idling ∙ i.awake v is)
      (joined_by s t _ t.clock added i (record { here = here; forward = omega arith }, i.ran v is ∙ sym clock))

  not_served : (s : SystemState S P F) (from : ℕ) → s.idling ≡ Some from → Covered s → s.service ≡ None
  not_served s from is i = by_service s.service refl
    where
      by_service : (o : Option Service) → s.service ≡ o → s.service ≡ None
      by_service None e = e
      by_service (Some v) e = cc (i.awake v e, is)

  -- idling ends
  idling_ends : (s : SystemState S P F) (rest : List Timed) (idling : Option ℕ) → s.idling ≡ idling → Covered s →
      let t = system.end_idling_of m w idling (record s { events = rest }) in
      Covered t × (t.idling ≡ None)
  idling_ends s rest None is i = (
    record {
      joined = i.joined;
      ran = i.ran;
      loaded = i.loaded;
      awake = i.awake;
      past = i.past;
      due = λ from e. cc (is, e);
    },
    is,
  )
  idling_ends s rest (Some from) is i =
      let t = system.end_idling_of m w (Some from) (record s { events = rest }) in
      let none = not_served s from is i in
      let here = sym (begun_idle s.service s.idling s.clock from none is) in (
        closed t none refl
            (joined_by s t (Idle from s.clock ∷ []) s.clock refl i
            (record { here = here; forward = i.past from is }, refl)),
        refl,
      )

  module _ (stays : StaysLoaded m w) where
    -- an event

    heard_keeps : (s : SystemState S P F) (c : ℕ) (kind : system.EventKind) (now : Console) (more : List Entry)
        → spans swap more ≡ [] → s.idling ≡ None → Covered s → Covered (system.heard m w c kind now more s)
    heard_keeps s c kind now more none rests i =
        let new = Taken s.clock c kind 0 0 ∷ more in
        noted_keeps s (system.heard m w c kind now more s) new refl none refl refl refl rests (λ v e h. h) i

    opens_keeps : (s : SystemState S P F) (c u : ℕ) → s.idling ≡ None → Covered s → Covered (system.opens m w c u s)
    opens_keeps s c u rests i =
        let new = Taken s.clock c LineTaken 0 0 ∷ Login s.clock c u ∷ [] in
        noted_keeps s (system.opens m w c u s) new refl refl refl refl refl rests
        (λ v e h. put_keeps (λ (p : S). w.must_load s.plan v.user p ≡ false) w.nobody s.users u v.user _ h
        (λ same. stays.opened s.plan v.user (state_of m w s u) (as_user s u v.user same h))) i

    line_keeps : (s : SystemState S P F) (c u : ℕ) (l : Line) → s.idling ≡ None → Covered s
        → Covered (system.line_at m w c u l s)
    line_keeps s c u l rests i =
        let p = state_of m w s u in
        let new = Taken s.clock c LineTaken u (m.own p) ∷ [] in
        noted_keeps s (system.line_at m w c u l s) new refl refl refl refl refl rests
        (λ v e h. stays.line s.plan v.user u p (m.typed p l) _ s.clock
        (put_keeps (λ (q : S). w.must_load s.plan v.user q ≡ false) w.nobody s.users u v.user (m.typed p l) h
        (λ same. stays.typed s.plan v.user p l (as_user s u v.user same h)))) i

    cut_keeps : (s : SystemState S P F) (kind : CutKind) (c u : ℕ)
        → ((v : Service) → s.service ≡ Some v → v.user ≢ u) → s.idling ≡ None
        → Covered s → Covered (system.cut_at m w kind c u s)
    cut_keeps s kind c u other rests i =
        let p = state_of m w s u in
        let new = Taken s.clock c (system.kind_of kind) u (m.own p) ∷ [] in
        noted_keeps s (system.cut_at m w kind c u s) new refl refl refl refl refl rests
        (λ v e h. let still = sym (at-put_other w.nobody s.users u v.user (m.cut kind p) (other v e)) in
        stays.cut s.plan v.user u kind p _ s.clock (other v e)
        (subst (λ (q : S). w.must_load s.plan v.user q ≡ false) still h)) i

    stopped_cut : (s : SystemState S P F) (kind : CutKind) (c u : ℕ) → s.idling ≡ None → Covered s
        → Covered (system.cut_at m w kind c u (system.stop_served m w u s))
    stopped_cut s kind c u rests i = by_service s.service refl
      where
        user_is : (x v : Service) → s.service ≡ Some x → s.service ≡ Some v → x.user ≡ v.user
        user_is x v is e = ap (λ (z : Service). z.user) (same_service x v (sym is ∙ e))

        by_service : (o : Option Service) → s.service ≡ o
            → Covered (system.cut_at m w kind c u (system.stop_served_of m w o u s))
        by_service None is = cut_keeps s kind c u (λ v e. cc (is, e)) rests i
        by_service (Some x) is =
            let t = system.end_service m w Stop x s in
            elim (eqb_tells x.user u) [
              | inl q ↦
                  let k : Covered t = ends_service s t x Stop is refl refl refl refl i in
                  rw q.0 (cut_keeps t kind c u (λ v e. cc) rests k)
              | inr q ↦ rw q.0 (cut_keeps s kind c u (λ v e h. q.1 (user_is x v is e ∙ h)) rests i)
            ]

    console_keeps : (c : ℕ) (console : Console) (event : system.Event) (s : SystemState S P F) → s.idling ≡ None
        → Covered s → Covered (system.at_console m w c console event s)
    console_keeps c Off Dials s rests i = heard_keeps s c _ _ [] refl rests i
    console_keeps c Off (Types l) s rests i = heard_keeps s c _ _ [] refl rests i
    console_keeps c Off Quits s rests i = heard_keeps s c _ _ [] refl rests i
    console_keeps c Off Hangs s rests i = heard_keeps s c _ _ [] refl rests i
    console_keeps c On Dials s rests i = heard_keeps s c _ _ [] refl rests i
    console_keeps c On (Types l) s rests i =
        elim (w.asked l) as (λ n. Covered (system.asks_in m w c n s)) [
          | None ↦ heard_keeps s c _ _ (Refused s.clock c 1 ∷ []) refl rests i
          | Some n ↦ heard_keeps s c _ _ [] refl rests i
        ]
    console_keeps c On Quits s rests i = heard_keeps s c _ _ [] refl rests i
    console_keeps c On Hangs s rests i = heard_keeps s c _ _ [] refl rests i
    console_keeps c (Password name) Dials s rests i = heard_keeps s c _ _ [] refl rests i
    console_keeps c (Password name) (Types l) s rests i =
        let again = λ (v : ℕ). system.heard m w c LineTaken On (Refused s.clock c 2 ∷ []) s in
        elim (w.check name l) as (λ n. Covered (system.logs_in m w c n s)) [
          | None ↦ heard_keeps s c _ _ (Refused s.clock c 1 ∷ []) refl rests i
          | Some v ↦
              elim (m.is_open (state_of m w s v))
              as (λ b. Covered (if b then again v else system.opens m w c v s)) [
                | true ↦ heard_keeps s c _ _ (Refused s.clock c 2 ∷ []) refl rests i
                | false ↦ opens_keeps s c v rests i
              ]
        ]
    console_keeps c (Password name) Quits s rests i = heard_keeps s c _ _ [] refl rests i
    console_keeps c (Password name) Hangs s rests i = heard_keeps s c _ _ [] refl rests i
    console_keeps c (Session v) Dials s rests i =
        let new = Taken s.clock c DialTaken v (m.own (state_of m w s v)) ∷ [] in
        noted_keeps s (system.noted m w new s) new refl refl refl refl refl rests (λ u e h. h) i
    console_keeps c (Session v) (Types l) s rests i =
        let spent = system.cut_at m w Spent c v (system.stop_served m w v s) in
        elim (nat_lt (m.lines (state_of m w s v)) system.max_lines)
        as (λ b. Covered (if b then system.line_at m w c v l s else spent))
        [ true ↦ line_keeps s c v l rests i | false ↦ stopped_cut s Spent c v rests i ]
    console_keeps c (Session v) Quits s rests i = stopped_cut s Quit c v rests i
    console_keeps c (Session v) Hangs s rests i = stopped_cut s Hang c v rests i

    taken_keeps : (e : Timed) (rest : List Timed) (s : SystemState S P F) → Covered s
        → Covered (system.taken m w e rest s)
    taken_keeps e rest s i =
        let t = system.end_idling_of m w s.idling (record s { events = rest }) in
        let k = idling_ends s rest s.idling refl i in
        console_keeps e.console (system.at Off t.consoles e.console) e.event t k.1 k.0

    -- a rise, while nothing idles
    rise_keeps : (u level : ℕ) (s : SystemState S P F) → s.idling ≡ None → Covered s
        → Covered (system.rise m w u level s)
    rise_keeps u level s rests i =
        let new = Rise s.clock u level ∷ [] in
        noted_keeps s (system.rise m w u level s) new refl refl refl refl refl rests
        (λ v e h. stays.risen s.plan v.user u level _ s.clock h) i

    -- a service that covers all until now is at hand
    record Serving (v : Service) (s : SystemState S P F) : Type 0 where
      joined : CoverUntil s v.tick
      ran : v.tick + v.ran ≡ s.clock
      rests : s.idling ≡ None

    -- a tick more, and the service is over
    last_tick : (v : Service) (cause : Cause) (s t : SystemState S P F) (new : List Entry)
        → spans swap new ≡ spans swap (Serve v.tick v.user v.level (suc v.ran) cause ∷ [])
        → t.entries ≡ s.entries ++ new → t.clock ≡ suc s.clock → t.service ≡ None → t.idling ≡ s.idling
        → Serving v s → Covered t
    last_tick v cause s t new same added clock service idling serving =
        let ends : v.tick + suc v.ran ≡ t.clock = omega (arith, serving.ran, clock) in
        let here : JoinFrom v.tick (spans swap new) t.clock =
        subst (λ (xs : List Span). JoinFrom v.tick xs t.clock) (sym same)
        (record { here = refl; forward = omega arith }, ends) in
        closed t service (idling ∙ serving.rests)
        (subst (λ (es : List Entry). JoinFrom 0 (spans swap es) t.clock) (sym added)
        (joins-append swap 0 v.tick t.clock s.entries new serving.joined here))

    goes_keeps : (v : Service) (t : ℕ) (s : SystemState S P F) (r : Reply) → Serving v s → Loaded s v.user →
        let p = state_of m w s v.user in
        let a = clock_for (m.asks_clock p) t in
        (cause : Option Cause) → (cause ≡ None → m.ending p a r ≡ Went) → Covered (system.goes_with m w v p a r cause s)
    goes_keeps v t s r serving load (Some cause) went =
        let p = state_of m w s v.user in
        let z = system.goes_with m w v p (clock_for (m.asks_clock p) t) r (Some cause) s in
        let last = Serve v.tick v.user v.level (suc v.ran) cause ∷ [] in
        let same = before_service swap (m.asks_clock p) s.clock v.user (m.asks_common p) r last in
        last_tick v cause s z _ same refl refl refl refl serving
    goes_keeps v t s r serving load None went =
        let p = state_of m w s v.user in
        let a = clock_for (m.asks_clock p) t in
        let q = m.step p a r in
        let z = system.goes_with m w v p a r None s in
        let new = clock_entry (m.asks_clock p) s.clock v.user ++ (common_entry (m.asks_common p) v.user r ++ []) in
        let charged = w.charged s.plan v.user (suc s.clock) in
        let none : spans swap new ≡ [] = before_service swap (m.asks_clock p) s.clock v.user (m.asks_common p) r [] in
        let stepped : w.must_load s.plan v.user (at w.nobody (put s.users v.user q) v.user) ≡ false =
        put_keeps (λ (x : S). w.must_load s.plan v.user x ≡ false) w.nobody s.users v.user v.user q load
        (λ same. stays.went s.plan v.user p t r (went refl) load) in
        let plan : Ending → P = λ e. w.gave_up charged v.user q e (suc s.clock) in
        let held : Loaded z v.user =
        subst (λ (e : Ending). w.must_load (plan e) v.user (state_of m w z v.user) ≡ false) (sym (went refl))
        (stays.charged s.plan v.user q _ (suc s.clock) stepped) in
        let goes_on = same_service (record v { ran = suc v.ran }) in
        record {
          joined =
              joins-append swap 0 v.tick v.tick s.entries new serving.joined
              (subst (λ (xs : List Span). JoinFrom v.tick xs v.tick) (sym none) refl);
          ran = λ x e. subst (λ (y : Service). y.tick + y.ran ≡ suc s.clock) (goes_on x e) (omega (arith, serving.ran));
          loaded = λ x e. subst (λ (y : Service). Loaded z y.user) (goes_on x e) held;
          awake = λ x e. serving.rests;
          past = λ from e. cc (serving.rests, e);
          due = λ from e. cc (serving.rests, e);
        }

    stepped_keeps : (v : Service) (s : SystemState S P F) → Serving v s → Loaded s v.user
        → Covered (system.stepped m w v s)
    stepped_keeps v s serving load =
        let p = state_of m w s v.user in
        let a = clock_for (m.asks_clock p) s.clock in
        let r = system.reply_for m w s.files (m.asks_common p) in
        let e = m.ending p a r in
        let left = w.time_left s.plan v.user in
        elim (m.can_step p) as (λ b. Covered (if b then system.goes m w v p s else system.waits m w v p s)) [
          | true ↦ goes_keeps v s.clock s r serving load (cause_of e left) (goes_on_went e left)
          | false ↦ last_tick v Wait s (system.waits m w v p s) _ refl refl refl refl refl serving
        ]

    module _ (costs : Costs swap w) where
      swapped_keeps : (u : ℕ) (s : SystemState S P F) → s.service ≡ None → s.idling ≡ None → Covered s
          → Covered (system.swapped m w u s)
      swapped_keeps u s none rests i =
          let t = system.swapped m w u s in
          let o = w.move s.plan u (state_of m w s u) in
          let here = sym (begun_now s.service s.idling s.clock none rests) in
          let ends : s.clock + swap * (o.dumped + o.read) ≡ t.clock =
          ap (λ (k : ℕ). s.clock + k) (sym (costs s.plan u (state_of m w s u))) in
          closed t none rests
          (joined_by s t (Swap s.clock u o.dumped o.read o.fresh ∷ []) t.clock refl i
          (record { here = here; forward = omega arith }, ends))

      attended_keeps : (v : Service) (s : SystemState S P F) → Serving v s
          → (w.must_load s.plan v.user (state_of m w s v.user) ≡ true → s.service ≡ None) → Covered s
          → Covered (system.attended m w v s)
      attended_keeps v s serving none i = by_test (w.must_load s.plan v.user (state_of m w s v.user)) refl
        where
          by_test : (b : Bool) → w.must_load s.plan v.user (state_of m w s v.user) ≡ b
              → Covered (if b then system.swapped m w v.user s else system.stepped m w v s)
          by_test true e = swapped_keeps v.user s (none e) serving.rests i
          by_test false e = stepped_keeps v s serving e

      -- nobody has anything to do until the next event
      idled_keeps : (s : SystemState S P F) → s.service ≡ None → s.idling ≡ None → s.clock < next_tick limit s.events
          → Covered s → Covered (system.idled m w limit s)
      idled_keeps s none rests later i =
          let t = system.idled m w limit s in
          let now : system.idle_from m w s.idling s.clock ≡ s.clock =
          ap (λ (x : Option ℕ). system.idle_from m w x s.clock) rests in
          let was = begun_now s.service s.idling s.clock none rests in
          let here = begun_idle t.service t.idling t.clock (system.idle_from m w s.idling s.clock) none refl in
          record {
            joined = subst (CoverUntil s) (was ∙ sym now ∙ sym here) i.joined;
            ran = λ v e. cc (none, e);
            loaded = λ v e. cc (none, e);
            awake = λ v e. cc (none, e);
            past = λ from e. let k = same_number _ from e in omega (arith, k, now, later);
            due = λ from e. omega arith;
          }

      otherwise_keeps : (s : SystemState S P F) (chosen : Option ℕ) (service : Option Service) → s.service ≡ service
          → s.idling ≡ None → s.clock < next_tick limit s.events → Covered s
          → Covered (system.otherwise m w limit chosen service s)
      otherwise_keeps s None None serves rests later i = idled_keeps s serves rests later i
      otherwise_keeps s None (Some x) serves rests later i =
          ends_service s (system.preempt m w x s) x Preempt serves refl refl refl refl i
      otherwise_keeps s (Some u) None serves rests later i =
          let was = begun_now s.service s.idling s.clock serves rests in
          let serving : Serving (record { tick = s.clock; user = u; level = w.level s.plan u; ran = 0 }) s =
          record { joined = subst (CoverUntil s) was i.joined; ran = omega arith; rests = rests } in
          attended_keeps _ s serving (λ e. serves) i
      otherwise_keeps s (Some u) (Some x) serves rests later i =
          let was = begun_served s.service s.idling s.clock x serves in
          let serving : Serving x s =
          record { joined = subst (CoverUntil s) was i.joined; ran = i.ran x serves; rests = rests } in
          elim (eqb_tells x.user u) [
            | inl q ↦ rw q.0 (attended_keeps x s serving (λ e. cc (e, i.loaded x serves)) i)
            | inr q ↦ rw q.0 (ends_service s (system.preempt m w x s) x Preempt serves refl refl refl refl i)
          ]

      -- before the next event nothing idles
      not_idle : (s : SystemState S P F) → s.clock < next_tick limit s.events → Covered s → s.idling ≡ None
      not_idle s later i = by_idling s.idling refl
        where
          by_idling : (o : Option ℕ) → s.idling ≡ o → s.idling ≡ None
          by_idling None e = e
          by_idling (Some from) e = absurd (omega (arith, i.due from e, later))

      quiet_keeps : (s : SystemState S P F) → s.clock < next_tick limit s.events → Covered s
          → Covered (system.quiet m w limit s)
      quiet_keeps s later i = by_rising (w.rises s.plan (system.served_of s.service) s.clock)
        where
          by_rising : (o : Option (ℕ × ℕ)) → Covered (system.quiet_by m w limit o s)
          by_rising None = otherwise_keeps s (w.choose s.plan) s.service refl (not_idle s later i) later i
          by_rising (Some x) = rise_keeps x.0 x.1 s (not_idle s later i) i

      next_keeps : (s : SystemState S P F) (events : List Timed) → s.events ≡ events → s.clock < limit → Covered s
          → Covered (system.next_by m w limit events s)
      next_keeps s [] is h i = quiet_keeps s (rw is h) i
      next_keeps s (e ∷ rest) is h i = by_test (nat_le e.tick s.clock) refl
        where
          by_test : (b : Bool) → nat_le e.tick s.clock ≡ b
              → Covered (if b then system.taken m w e rest s else system.quiet m w limit s)
          by_test true q = taken_keeps e rest s i
          by_test false q = quiet_keeps s (rw is (omega (arith, leb-false e.tick s.clock q))) i

      turns_keep : (n : ℕ) (s : SystemState S P F) (b : Bool) → nat_lt s.clock limit ≡ b
          → ((t : SystemState S P F) → Covered t → Covered (iterate m w limit n t)) → Covered s →
          let more = repeat (clock_is_below m w limit) (next m w limit) n (next m w limit s) in
          Covered (elim b [ true ↦ more | false ↦ s ])
      turns_keep n s true q turns i =
          turns (next m w limit s) (next_keeps s s.events refl (ltb-true s.clock limit q) i)
      turns_keep n s false q turns i = i

      iterate_keeps : (n : ℕ) (s : SystemState S P F) → Covered s → Covered (iterate m w limit n s)
      iterate_keeps zero s i = i
      iterate_keeps (suc n) s i = turns_keep n s (nat_lt s.clock limit) refl (λ t j. iterate_keeps n t j) i

      -- the end of a record

      rest_joined : (t : SystemState S P F) (idling : Option ℕ) → t.idling ≡ idling → t.service ≡ None → Covered t →
          let e = system.end_idling_of m w idling t in
          CoverUntil e e.clock
      rest_joined t None is none i = subst (CoverUntil t) (begun_now t.service t.idling t.clock none is) i.joined
      rest_joined t (Some from) is none i =
          let here = sym (begun_idle t.service t.idling t.clock from none is) in
          joined_by t (system.end_idling_of m w (Some from) t) (Idle from t.clock ∷ []) t.clock refl i
          (record { here = here; forward = i.past from is }, refl)

      ended_joined : (s : SystemState S P F) → Covered s → CoverUntil (system.ended m w s) (system.ended m w s).clock
      ended_joined s i = by_service s.service refl
        where
          by_service : (o : Option Service) → s.service ≡ o →
              let t = system.end_open m w o s in
              let e = system.end_idling_of m w t.idling t in
              CoverUntil e e.clock
          by_service None is = rest_joined s s.idling refl is i
          by_service (Some v) is =
              let t = system.end_service m w AtEnd v s in
              rest_joined t t.idling refl refl (ends_service s t v AtEnd is refl refl refl refl i)

      -- in the whole record
      record_joined : (firsts : List S) (files : F) (plan : P) (consoles n : ℕ) (events : List Timed) →
          let e = system.ended m w (iterate m w limit n (start m w firsts files plan consoles events)) in
          CoverUntil e e.clock
      record_joined firsts files plan consoles n events =
          let s = start m w firsts files plan consoles events in
          ended_joined (iterate m w limit n s) (iterate_keeps n s (closed s refl refl refl))

pub all_ticks_join : (S P F : Type 0) → AllTicksJoin S P F
all_ticks_join S P F m w swap stays costs firsts files plan consoles limit n events =
    let e = system.ended m w (iterate m w limit n (start m w firsts files plan consoles events)) in
    let h = record_joined m w swap limit stays costs firsts files plan consoles n events in
    (h, omega (arith, joined_sum swap 0 e.clock e.entries h))
