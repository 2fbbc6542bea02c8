-- Each case of a step is what the machine says.
use Rattle.std.proofs.Common.{◌≡◌, ℕ, zero, suc, ◌+◌, ◌-◌, ◌<◌, ◌≤◌, Bool, true, false, cond, nat_eq, nat_le, nat_lt, List, [], ◌∷◌, ◌++◌, Option, Some, None, drop, set, get_or, append_assoc, refl, sym, ◌∙◌, ap, arith, lt-ltb, le-ltb, eq-eqb, ne_eqb, ◌≢◌}
use Rattle.time_sharing.specs.Machine.{Line, CutKind, Quit, Hang, Spent, Ending}
use Rattle.ctss_types.specs.declared.file.FileBody.{FileBody}
use Rattle.time_sharing.specs.Rows.{machine}
use Rattle.time_sharing.specs.System as theory
use Rattle.time_sharing.specs.System.{SystemState, Timed, Service, Console, Off, On, Password, Session, Entry, Taken, Login, Refused, Idle, Swap, Serve, EventKind, Event, Dials, Types, Quits, Hangs, LineTaken, DialTaken, kind_of, QuitTaken, HangTaken, Cause, Stop, Wait, Preempt, AtEnd, at, put, max_lines, without}
use Rattle.user_model.specs.Session.{user_rows, nobody}
use Rattle.user_model.specs.User.{User, typed, opened, cut, can_step, step, ending, asks_clock, asks_common}
use Rattle.plan_model.specs.Levels.{chosen, level_in, has_time, charged, dropped, woken}
use Rattle.plan_model.specs.Plan.{Plan, must_load, places_cut, places_after}
use Rattle.user_model.specs.Inner.{blocks_of}
use Rattle.system_model.specs.World.{line_blocks, asked, check}
use Rattle.system_model.specs.Run.{world, Run, State, next, taken, at_console, awake, otherwise, attended, by_due, by_rising, rising, rise, due_of, ended}
use Rattle.system_model.specs.Cases.{brought, reply_for, levels_after, heard, line_taken, quit_taken, hang_taken, spent_taken, cut_taken, login_taken, dial_taken, idled, broken_off, stepped, waited, user_at, with_user, closed, end_notes, idle_start, idle_notes, stop_notes, not_served}

pub at_user : {X : Type 0} (d : X) (xs : List X) (u : ℕ) → 0 < u → at d xs u ≡ get_or xs (u - 1) d
at_user d xs zero h = absurd (omega arith)
at_user d xs (suc n) h = let e : suc n - 1 ≡ n = omega arith in ap (λ (k : ℕ). get_or xs k d) (sym e)

pub put_user : {X : Type 0} (xs : List X) (u : ℕ) (x : X) → 0 < u → put xs u x ≡ set xs (u - 1) x
put_user xs zero x h = absurd (omega arith)
put_user xs (suc n) x h = let e : suc n - 1 ≡ n = omega arith in ap (λ (k : ℕ). set xs k x) (sym e)

pub next_due : (limit : ℕ) (r : Run) → next limit r ≡ by_due limit (due_of r.system.events r.system.clock) r
unfolding next taken otherwise rise
next_due limit r = by_events r.system.events refl
  where
    by_who : (o : Option (ℕ × ℕ)) → record r { system = theory.quiet_by (machine user_rows) (world r) limit o r.system } ≡ by_rising limit o r
    by_who None = refl
    by_who (Some x) = refl

    by_test : (e : Timed) (rest : List Timed) → r.system.events ≡ e ∷ rest → (b : Bool)
        → record r { system = cond b (theory.taken (machine user_rows) (world r) e rest r.system) (theory.quiet (machine user_rows) (world r) limit r.system) } ≡ by_due limit (cond b (Some e) None) r
    by_test e rest is true = ap (λ (es : List Timed). record r { system = theory.taken (machine user_rows) (world r) e (drop 1 es) r.system }) (sym is)
    by_test e rest is false = by_who (rising r)

    by_events : (es : List Timed) → r.system.events ≡ es → record r { system = theory.next_by (machine user_rows) (world r) limit es r.system } ≡ by_due limit (due_of es r.system.clock) r
    by_events [] is = by_who (rising r)
    by_events (e ∷ rest) is = by_test e rest is (nat_le e.tick r.system.clock)

abbrev M : Rattle.time_sharing.specs.Machine.Machine User
M = machine user_rows

abbrev W : Run → theory.World User Plan (List FileBody)
W r = world r

-- an event that no session hears
heard_is : (c : ℕ) (kind : EventKind) (now : Console) (more : ℕ → List Entry) (r : Run) → 0 < c
    → record r { system = theory.heard M (W r) c kind now (more (awake r).clock) (awake r) } ≡ heard c kind now (more r.system.clock) r
unfolding heard
heard_is c kind now more r h = by_idling r.system.idling refl
  where
    by_idling : (i : Option ℕ) → r.system.idling ≡ i → let t = theory.end_idling_of M (W r) i (record r.system { events = drop 1 r.system.events }) in
        record r { system = theory.heard M (W r) c kind now (more t.clock) t } ≡
        record r { system = record r.system { events = drop 1 r.system.events; idling = None; consoles = set r.system.consoles (c - 1) now; entries = r.system.entries ++ (idle_notes i r.system.clock ++ Taken r.system.clock c kind 0 0 ∷ more r.system.clock) } }
    by_idling None is = λ j. record r { system = record r.system { events = drop 1 r.system.events; idling = is j; consoles = put_user r.system.consoles c now h j; entries = r.system.entries ++ Taken r.system.clock c kind 0 0 ∷ more r.system.clock } }
    by_idling (Some from) is = λ j. record r { system = record r.system { events = drop 1 r.system.events; idling = None; consoles = put_user r.system.consoles c now h j; entries = append_assoc r.system.entries (Idle from r.system.clock ∷ []) (Taken r.system.clock c kind 0 0 ∷ more r.system.clock) j } }

pub off_dials : (c : ℕ) (r : Run) → 0 < c → at_console c Off Dials r ≡ heard c DialTaken On [] r
unfolding at_console
off_dials c r h = heard_is c DialTaken On (λ t. []) r h

pub off_types : (c : ℕ) (l : Line) (r : Run) → 0 < c → at_console c Off (Types l) r ≡ heard c LineTaken Off [] r
unfolding at_console
off_types c l r h = heard_is c LineTaken Off (λ t. []) r h

pub off_quits : (c : ℕ) (r : Run) → 0 < c → at_console c Off Quits r ≡ heard c QuitTaken Off [] r
unfolding at_console
off_quits c r h = heard_is c QuitTaken Off (λ t. []) r h

pub off_hangs : (c : ℕ) (r : Run) → 0 < c → at_console c Off Hangs r ≡ heard c HangTaken Off [] r
unfolding at_console
off_hangs c r h = heard_is c HangTaken Off (λ t. []) r h

-- a quit, a hang, or a line too much, of a session
cut_is : (kind : CutKind) (c u : ℕ) (r : Run) → 0 < u
    → record r { system = theory.cut_at M (W r) kind c u (theory.stop_served M (W r) u (awake r)) } ≡ cut_taken kind c u (theory.consoles_cut kind c u r.system.consoles) r
unfolding cut
cut_is kind c u r h = by_idling r.system.idling refl
  where
    user : at nobody r.system.users u ≡ user_at u r.system.users
    user = at_user nobody r.system.users u h

    users : put r.system.users u (cut kind (at nobody r.system.users u)) ≡ with_user u (cut kind (user_at u r.system.users)) r.system.users
    users = put_user r.system.users u (cut kind (at nobody r.system.users u)) h ∙ ap (λ (p : User). with_user u (cut kind p) r.system.users) user

    told : User → Entry
    told p = Taken r.system.clock c (kind_of kind) u p.own

    by_test : (idl : Option ℕ) (es notes : List Entry) → idl ≡ None → ((x : List Entry) → es ++ x ≡ r.system.entries ++ (notes ++ x)) → (v : Service) → r.system.service ≡ Some v → (b : Bool)
        → record r { system = theory.cut_at M (W r) kind c u (cond b (theory.end_service M (W r) Stop v (record r.system { events = drop 1 r.system.events; idling = idl; entries = es })) (record r.system { events = drop 1 r.system.events; idling = idl; entries = es })) } ≡
        record r {
          system = record r.system {
            users = with_user u (cut kind (user_at u r.system.users)) r.system.users;
            plan = record r.system.plan { levels = dropped u r.system.plan.levels; places = places_cut kind u r.system.plan.places };
            consoles = theory.consoles_cut kind c u r.system.consoles;
            events = drop 1 r.system.events;
            idling = None;
            service = cond b None (Some v);
            entries = r.system.entries ++ (notes ++ (cond b (Serve v.tick v.user v.level v.ran Stop ∷ []) [] ++ told (user_at u r.system.users) ∷ []));
          };
        }
    by_test idl es notes none tail v is true = λ j. record r {
      system = record r.system {
        users = users j;
        plan = record r.system.plan { levels = dropped u r.system.plan.levels; places = places_cut kind u r.system.plan.places };
        consoles = theory.consoles_cut kind c u r.system.consoles;
        events = drop 1 r.system.events;
        idling = none j;
        service = None;
        entries = (append_assoc es (Serve v.tick v.user v.level v.ran Stop ∷ []) (told (at nobody r.system.users u) ∷ []) ∙ tail (Serve v.tick v.user v.level v.ran Stop ∷ told (at nobody r.system.users u) ∷ []) ∙ ap (λ (p : User). r.system.entries ++ (notes ++ (Serve v.tick v.user v.level v.ran Stop ∷ told p ∷ []))) user) j;
      };
    }
    by_test idl es notes none tail v is false = λ j. record r {
      system = record r.system {
        users = users j;
        plan = record r.system.plan { levels = dropped u r.system.plan.levels; places = places_cut kind u r.system.plan.places };
        consoles = theory.consoles_cut kind c u r.system.consoles;
        events = drop 1 r.system.events;
        idling = none j;
        service = is j;
        entries = (tail (told (at nobody r.system.users u) ∷ []) ∙ ap (λ (p : User). r.system.entries ++ (notes ++ told p ∷ [])) user) j;
      };
    }

    by_service : (idl : Option ℕ) (es notes : List Entry) → idl ≡ None → ((x : List Entry) → es ++ x ≡ r.system.entries ++ (notes ++ x)) → (v : Option Service) → r.system.service ≡ v
        → record r { system = theory.cut_at M (W r) kind c u (theory.stop_served_of M (W r) v u (record r.system { events = drop 1 r.system.events; idling = idl; entries = es })) } ≡
        record r {
          system = record r.system {
            users = with_user u (cut kind (user_at u r.system.users)) r.system.users;
            plan = record r.system.plan { levels = dropped u r.system.plan.levels; places = places_cut kind u r.system.plan.places };
            consoles = theory.consoles_cut kind c u r.system.consoles;
            events = drop 1 r.system.events;
            idling = None;
            service = not_served v u;
            entries = r.system.entries ++ (notes ++ (stop_notes v u ++ told (user_at u r.system.users) ∷ []));
          };
        }
    by_service idl es notes none tail None is = λ j. record r {
      system = record r.system {
        users = users j;
        plan = record r.system.plan { levels = dropped u r.system.plan.levels; places = places_cut kind u r.system.plan.places };
        consoles = theory.consoles_cut kind c u r.system.consoles;
        events = drop 1 r.system.events;
        idling = none j;
        service = is j;
        entries = (tail (told (at nobody r.system.users u) ∷ []) ∙ ap (λ (p : User). r.system.entries ++ (notes ++ told p ∷ [])) user) j;
      };
    }
    by_service idl es notes none tail (Some v) is = by_test idl es notes none tail v is (nat_eq v.user u)

    by_idling : (i : Option ℕ) → r.system.idling ≡ i → record r { system = theory.cut_at M (W r) kind c u (theory.stop_served M (W r) u (theory.end_idling_of M (W r) i (record r.system { events = drop 1 r.system.events }))) } ≡
        record r {
          system = record r.system {
            users = with_user u (cut kind (user_at u r.system.users)) r.system.users;
            plan = record r.system.plan { levels = dropped u r.system.plan.levels; places = places_cut kind u r.system.plan.places };
            consoles = theory.consoles_cut kind c u r.system.consoles;
            events = drop 1 r.system.events;
            idling = None;
            service = not_served r.system.service u;
            entries = r.system.entries ++ (idle_notes i r.system.clock ++ (stop_notes r.system.service u ++ told (user_at u r.system.users) ∷ []));
          };
        }
    by_idling None is = by_service r.system.idling r.system.entries [] is (λ x. refl) r.system.service refl
    by_idling (Some from) is = by_service None (r.system.entries ++ Idle from r.system.clock ∷ []) (Idle from r.system.clock ∷ []) refl (λ x. append_assoc r.system.entries (Idle from r.system.clock ∷ []) x) r.system.service refl

pub in_quits : (c u : ℕ) (r : Run) → 0 < u → at_console c (Session u) Quits r ≡ quit_taken c u r
unfolding at_console quit_taken
in_quits c u r h = cut_is Quit c u r h

pub in_hangs : (c u : ℕ) (r : Run) → 0 < u → 0 < c → at_console c (Session u) Hangs r ≡ hang_taken c u r
unfolding at_console hang_taken
in_hangs c u r h k = cut_is Hang c u r h ∙ ap (λ (cs : List Console). cut_taken Hang c u cs r) (put_user (without u r.system.consoles) c Off k)

-- users aren't changed by the end of idling
users_same : (r : Run) (i : Option ℕ) → (theory.end_idling_of M (W r) i (record r.system { events = drop 1 r.system.events })).users ≡ r.system.users
users_same r None = refl
users_same r (Some from) = refl

on_is : (r : Run) (u : ℕ) → 0 < u → (theory.state_of M (W r) (awake r) u).on ≡ (user_at u r.system.users).on
on_is r u h = ap (λ (us : List User). (at nobody us u).on) (users_same r r.system.idling) ∙ ap (λ (p : User). p.on) (at_user nobody r.system.users u h)

lines_is : (r : Run) (u : ℕ) → 0 < u → (theory.state_of M (W r) (awake r) u).lines ≡ (user_at u r.system.users).lines
lines_is r u h = ap (λ (us : List User). (at nobody us u).lines) (users_same r r.system.idling) ∙ ap (λ (p : User). p.lines) (at_user nobody r.system.users u h)

-- a line that a session keeps
line_is : (c u : ℕ) (l : Line) (r : Run) → 0 < u → record r { system = theory.line_at M (W r) c u l (awake r) } ≡ line_taken c u l r
unfolding typed line_taken
line_is c u l r h = by_idling r.system.idling refl
  where
    user : at nobody r.system.users u ≡ user_at u r.system.users
    user = at_user nobody r.system.users u h

    users : put r.system.users u (typed l (at nobody r.system.users u)) ≡ with_user u (typed l (user_at u r.system.users)) r.system.users
    users = put_user r.system.users u (typed l (at nobody r.system.users u)) h ∙ ap (λ (p : User). with_user u (typed l p) r.system.users) user

    told : User → Entry
    told p = Taken r.system.clock c LineTaken u p.own

    planned : User → Plan
    planned p = record r.system.plan { levels = woken (line_blocks p) u r.system.clock r.system.plan.levels }

    by_idling : (i : Option ℕ) → r.system.idling ≡ i → record r { system = theory.line_at M (W r) c u l (theory.end_idling_of M (W r) i (record r.system { events = drop 1 r.system.events })) } ≡
        record r {
          system = record r.system {
            users = with_user u (typed l (user_at u r.system.users)) r.system.users;
            plan = planned (user_at u r.system.users);
            events = drop 1 r.system.events;
            idling = None;
            entries = r.system.entries ++ (idle_notes i r.system.clock ++ told (user_at u r.system.users) ∷ []);
          };
        }
    by_idling None is = λ j. record r { system = record r.system { users = users j; plan = planned (user j); events = drop 1 r.system.events; idling = is j; entries = r.system.entries ++ told (user j) ∷ [] } }
    by_idling (Some from) is = λ j. record r {
      system = record r.system {
        users = users j;
        plan = planned (user j);
        events = drop 1 r.system.events;
        idling = None;
        entries = (append_assoc r.system.entries (Idle from r.system.clock ∷ []) (told (at nobody r.system.users u) ∷ []) ∙ ap (λ (p : User). r.system.entries ++ (Idle from r.system.clock ∷ told p ∷ [])) user) j;
      };
    }

pub in_types : (c u : ℕ) (l : Line) (r : Run) → 0 < u → (user_at u r.system.users).lines < max_lines → at_console c (Session u) (Types l) r ≡ line_taken c u l r
unfolding at_console
in_types c u l r h few = ap (λ (b : Bool). record r { system = cond b (theory.line_at M (W r) c u l (awake r)) (theory.cut_at M (W r) Spent c u (theory.stop_served M (W r) u (awake r))) }) (ap (λ (n : ℕ). nat_lt n max_lines) (lines_is r u h) ∙ lt-ltb (user_at u r.system.users).lines max_lines few) ∙ line_is c u l r h

pub in_spends : (c u : ℕ) (l : Line) (r : Run) → 0 < u → max_lines ≤ (user_at u r.system.users).lines → at_console c (Session u) (Types l) r ≡ spent_taken c u r
unfolding at_console spent_taken
in_spends c u l r h many = ap (λ (b : Bool). record r { system = cond b (theory.line_at M (W r) c u l (awake r)) (theory.cut_at M (W r) Spent c u (theory.stop_served M (W r) u (awake r))) }) (ap (λ (n : ℕ). nat_lt n max_lines) (lines_is r u h) ∙ le-ltb (user_at u r.system.users).lines max_lines many) ∙ cut_is Spent c u r h

-- the user that a service is of
serves_user : (v : Service) (r : Run) → 0 < v.user → at nobody r.system.users v.user ≡ user_at v.user r.system.users
serves_user v r h = at_user nobody r.system.users v.user h

-- a user whose blocks are not all in core
pub attended_loads : (v : Service) (r : Run) → 0 < v.user → must_load r.system.plan v.user (blocks_of (user_at v.user r.system.users).inner) ≡ true → attended v r ≡ brought v.user r
unfolding attended brought
attended_loads v r h must =
    ap (λ (p : User). record r { system = cond (must_load r.system.plan v.user (blocks_of p.inner)) (brings p) (theory.stepped M (W r) v r.system) }) (serves_user v r h)
    ∙ ap (λ (b : Bool). record r { system = cond b (brings (user_at v.user r.system.users)) (theory.stepped M (W r) v r.system) }) must
  where
    brings : User → State
    brings p =
        let o = (W r).move r.system.plan v.user p in
        record r.system { plan = (W r).load r.system.plan v.user p r.system.clock; clock = r.system.clock + o.ticks; entries = r.system.entries ++ Swap r.system.clock v.user o.dumped o.read o.fresh ∷ [] }

-- one whose blocks are in core
attended_in_core : (v : Service) (r : Run) → 0 < v.user → must_load r.system.plan v.user (blocks_of (user_at v.user r.system.users).inner) ≡ false →
    attended v r ≡ record r { system = cond (M.can_step (user_at v.user r.system.users)) (theory.goes M (W r) v (user_at v.user r.system.users) r.system) (theory.waits M (W r) v (user_at v.user r.system.users) r.system) }
unfolding attended
attended_in_core v r h loaded =
    ap (λ (p : User). record r { system = cond (must_load r.system.plan v.user (blocks_of p.inner)) (theory.swapped M (W r) v.user r.system) (cond (M.can_step p) (theory.goes M (W r) v p r.system) (theory.waits M (W r) v p r.system)) }) (serves_user v r h)
    ∙ ap (λ (b : Bool). record r { system = cond b (theory.swapped M (W r) v.user r.system) (cond (M.can_step (user_at v.user r.system.users)) (theory.goes M (W r) v (user_at v.user r.system.users) r.system) (theory.waits M (W r) v (user_at v.user r.system.users) r.system)) }) loaded

pub attended_steps : (v : Service) (r : Run) → 0 < v.user → must_load r.system.plan v.user (blocks_of (user_at v.user r.system.users).inner) ≡ false → can_step (user_at v.user r.system.users) ≡ true → attended v r ≡ stepped v r
unfolding stepped can_step step ending asks_clock asks_common
attended_steps v r h loaded can =
    attended_in_core v r h loaded
    ∙ ap (λ (b : Bool). record r { system = cond b (theory.goes M (W r) v (user_at v.user r.system.users) r.system) (theory.waits M (W r) v (user_at v.user r.system.users) r.system) }) can
    ∙ goes_is
  where
    p : User
    p = user_at v.user r.system.users

    -- what a cause does to the plan
    planned : (o : Option Cause) (q : User) (t : Ending) →
        (W r).gave_up (theory.plan_after M (W r) (record r.system.plan { levels = charged v.user (suc r.system.clock) r.system.plan.levels }) v.user o q (suc r.system.clock)) v.user q t (suc r.system.clock)
        ≡ record { levels = levels_after o v.user q (suc r.system.clock) (charged v.user (suc r.system.clock) r.system.plan.levels); places = places_after t v.user (blocks_of q.inner) r.system.plan.places }
    planned None q t = refl
    planned (Some cause) q t = refl

    goes_is : record r { system = theory.goes M (W r) v (user_at v.user r.system.users) r.system } ≡ stepped v r
    goes_is = λ j. record r {
      system = record (theory.goes M (W r) v (user_at v.user r.system.users) r.system) {
        users = put_user r.system.users v.user (step r.system.clock (reply_for r (asks_common p)) p) h j;
        plan = planned (theory.cause_of (ending r.system.clock (reply_for r (asks_common p)) p) (has_time r.system.plan.levels)) (step r.system.clock (reply_for r (asks_common p)) p) (ending r.system.clock (reply_for r (asks_common p)) p) j;
      };
    }

pub attended_waits : (v : Service) (r : Run) → 0 < v.user → must_load r.system.plan v.user (blocks_of (user_at v.user r.system.users).inner) ≡ false → can_step (user_at v.user r.system.users) ≡ false → attended v r ≡ waited v r
unfolding waited can_step
attended_waits v r h loaded cannot =
    attended_in_core v r h loaded
    ∙ ap (λ (b : Bool). record r { system = cond b (theory.goes M (W r) v (user_at v.user r.system.users) r.system) (theory.waits M (W r) v (user_at v.user r.system.users) r.system) }) cannot

pub in_dials : (c u : ℕ) (r : Run) → 0 < u → at_console c (Session u) Dials r ≡ dial_taken c u r
unfolding at_console dial_taken
in_dials c u r h = by_idling r.system.idling refl
  where
    user : at nobody r.system.users u ≡ user_at u r.system.users
    user = at_user nobody r.system.users u h

    told : User → Entry
    told p = Taken r.system.clock c DialTaken u p.own

    by_idling : (i : Option ℕ) → r.system.idling ≡ i → let t = theory.end_idling_of M (W r) i (record r.system { events = drop 1 r.system.events }) in
        record r { system = theory.noted M (W r) (Taken t.clock c DialTaken u (theory.state_of M (W r) t u).own ∷ []) t } ≡
        record r { system = record r.system { events = drop 1 r.system.events; idling = None; entries = r.system.entries ++ (idle_notes i r.system.clock ++ told (user_at u r.system.users) ∷ []) } }
    by_idling None is = λ j. record r { system = record r.system { events = drop 1 r.system.events; idling = is j; entries = r.system.entries ++ told (user j) ∷ [] } }
    by_idling (Some from) is = λ j. record r {
      system = record r.system {
        events = drop 1 r.system.events;
        idling = None;
        entries = (append_assoc r.system.entries (Idle from r.system.clock ∷ []) (told (at nobody r.system.users u) ∷ []) ∙ ap (λ (p : User). r.system.entries ++ (Idle from r.system.clock ∷ told p ∷ [])) user) j;
      };
    }

pub on_dials : (c : ℕ) (r : Run) → 0 < c → at_console c On Dials r ≡ heard c DialTaken On [] r
unfolding at_console
on_dials c r h = heard_is c DialTaken On (λ t. []) r h

pub on_quits : (c : ℕ) (r : Run) → 0 < c → at_console c On Quits r ≡ heard c QuitTaken On [] r
unfolding at_console
on_quits c r h = heard_is c QuitTaken On (λ t. []) r h

pub on_hangs : (c : ℕ) (r : Run) → 0 < c → at_console c On Hangs r ≡ heard c HangTaken Off [] r
unfolding at_console
on_hangs c r h = heard_is c HangTaken Off (λ t. []) r h

-- a line at a console that is on
pub on_no_name : (c : ℕ) (l : Line) (r : Run) → 0 < c → asked l ≡ None → at_console c On (Types l) r ≡ heard c LineTaken On (Refused r.system.clock c 1 ∷ []) r
unfolding at_console
on_no_name c l r h e = ap (λ (o : Option ℕ). record r { system = theory.asks_in M (W r) c o (awake r) }) e ∙ heard_is c LineTaken On (λ t. Refused t c 1 ∷ []) r h

pub on_name : (c : ℕ) (l : Line) (name : ℕ) (r : Run) → 0 < c → asked l ≡ Some name → at_console c On (Types l) r ≡ heard c LineTaken (Password name) [] r
unfolding at_console
on_name c l name r h e = ap (λ (o : Option ℕ). record r { system = theory.asks_in M (W r) c o (awake r) }) e ∙ heard_is c LineTaken (Password name) (λ t. []) r h

pub asked_dials : (c : ℕ) (name : ℕ) (r : Run) → 0 < c → at_console c (Password name) Dials r ≡ heard c DialTaken (Password name) [] r
unfolding at_console
asked_dials c name r h = heard_is c DialTaken (Password name) (λ t. []) r h

pub asked_quits : (c : ℕ) (name : ℕ) (r : Run) → 0 < c → at_console c (Password name) Quits r ≡ heard c QuitTaken On [] r
unfolding at_console
asked_quits c name r h = heard_is c QuitTaken On (λ t. []) r h

pub asked_hangs : (c : ℕ) (name : ℕ) (r : Run) → 0 < c → at_console c (Password name) Hangs r ≡ heard c HangTaken Off [] r
unfolding at_console
asked_hangs c name r h = heard_is c HangTaken Off (λ t. []) r h

pub wrong_word : (c : ℕ) (name : ℕ) (word : Line) (r : Run) → 0 < c → check r.accounts name word ≡ None → at_console c (Password name) (Types word) r ≡ heard c LineTaken On (Refused r.system.clock c 1 ∷ []) r
unfolding at_console
wrong_word c name word r h e = ap (λ (o : Option ℕ). record r { system = theory.logs_in M (W r) c o (awake r) }) e ∙ heard_is c LineTaken On (λ t. Refused t c 1 ∷ []) r h

pub already_on : (c u : ℕ) (name : ℕ) (word : Line) (r : Run) → 0 < c → 0 < u → check r.accounts name word ≡ Some u → (user_at u r.system.users).on ≡ true → at_console c (Password name) (Types word) r ≡ heard c LineTaken On (Refused r.system.clock c 2 ∷ []) r
unfolding at_console
already_on c u name word r h k e on =
    ap (λ (o : Option ℕ). record r { system = theory.logs_in M (W r) c o (awake r) }) e
    ∙ ap (λ (b : Bool). record r { system = cond b (theory.heard M (W r) c LineTaken On (Refused (awake r).clock c 2 ∷ []) (awake r)) (theory.opens M (W r) c u (awake r)) }) (on_is r u k ∙ on)
    ∙ heard_is c LineTaken On (λ t. Refused t c 2 ∷ []) r h

login_is : (c u : ℕ) (r : Run) → 0 < c → 0 < u → record r { system = theory.opens M (W r) c u (awake r) } ≡ login_taken c u r
unfolding login_taken opened
login_is c u r k h = by_idling r.system.idling refl
  where
    users : put r.system.users u (opened (at nobody r.system.users u)) ≡ with_user u (opened (user_at u r.system.users)) r.system.users
    users = put_user r.system.users u (opened (at nobody r.system.users u)) h ∙ ap (λ (p : User). with_user u (opened p) r.system.users) (at_user nobody r.system.users u h)

    by_idling : (i : Option ℕ) → r.system.idling ≡ i → record r { system = theory.opens M (W r) c u (theory.end_idling_of M (W r) i (record r.system { events = drop 1 r.system.events })) } ≡
        record r {
          system = record r.system {
            users = with_user u (opened (user_at u r.system.users)) r.system.users;
            events = drop 1 r.system.events;
            idling = None;
            consoles = set r.system.consoles (c - 1) (Session u);
            entries = r.system.entries ++ (idle_notes i r.system.clock ++ Taken r.system.clock c LineTaken 0 0 ∷ Login r.system.clock c u ∷ []);
          };
        }
    by_idling None is = λ j. record r { system = record r.system { users = users j; events = drop 1 r.system.events; idling = is j; consoles = put_user r.system.consoles c (Session u) k j; entries = r.system.entries ++ Taken r.system.clock c LineTaken 0 0 ∷ Login r.system.clock c u ∷ [] } }
    by_idling (Some from) is = λ j. record r {
      system = record r.system {
        users = users j;
        events = drop 1 r.system.events;
        idling = None;
        consoles = put_user r.system.consoles c (Session u) k j;
        entries = append_assoc r.system.entries (Idle from r.system.clock ∷ []) (Taken r.system.clock c LineTaken 0 0 ∷ Login r.system.clock c u ∷ []) j;
      };
    }

pub logs_in : (c u : ℕ) (name : ℕ) (word : Line) (r : Run) → 0 < c → 0 < u → check r.accounts name word ≡ Some u → (user_at u r.system.users).on ≡ false → at_console c (Password name) (Types word) r ≡ login_taken c u r
unfolding at_console
logs_in c u name word r h k e off =
    ap (λ (o : Option ℕ). record r { system = theory.logs_in M (W r) c o (awake r) }) e
    ∙ ap (λ (b : Bool). record r { system = cond b (theory.heard M (W r) c LineTaken On (Refused (awake r).clock c 2 ∷ []) (awake r)) (theory.opens M (W r) c u (awake r)) }) (on_is r u k ∙ off)
    ∙ login_is c u r h k

-- the event due, at its console
pub taken_at : (e : Timed) (r : Run) → 0 < e.console → taken e r ≡ at_console e.console (get_or r.system.consoles (e.console - 1) Off) e.event r
unfolding taken at_console
taken_at e r h = ap (λ (c : Console). record r { system = theory.at_console M (W r) e.console c e.event (awake r) }) (ap (λ (cs : List Console). at Off cs e.console) (consoles_same r.system.idling) ∙ at_user Off r.system.consoles e.console h)
  where
    consoles_same : (i : Option ℕ) → (theory.end_idling_of M (W r) i (record r.system { events = drop 1 r.system.events })).consoles ≡ r.system.consoles
    consoles_same None = refl
    consoles_same (Some from) = refl

-- nobody, nobody any longer, one who is served, and another
pub idles : (limit : ℕ) (r : Run) → otherwise limit None None r ≡ idled limit r
unfolding otherwise idled
idles limit r = by_idling r.system.idling
  where
    by_idling : (i : Option ℕ) → record r { system = record r.system { clock = theory.next_tick limit r.system.events; idling = Some (theory.idle_from M (W r) i r.system.clock) } } ≡ record r { system = record r.system { clock = theory.next_tick limit r.system.events; idling = Some (idle_start i r.system.clock) } }
    by_idling None = refl
    by_idling (Some from) = refl

pub preempts_none : (limit : ℕ) (v : Service) (r : Run) → otherwise limit None (Some v) r ≡ broken_off v r
unfolding otherwise broken_off
preempts_none limit v r = refl

pub begins : (limit u : ℕ) (r : Run) → otherwise limit (Some u) None r ≡ attended (record { tick = r.system.clock; user = u; level = level_in (chosen r.system.plan.levels); ran = 0 }) r
unfolding otherwise attended
begins limit u r = refl

pub goes_on : (limit u : ℕ) (v : Service) (r : Run) → v.user ≡ u → otherwise limit (Some u) (Some v) r ≡ attended v r
unfolding otherwise attended
goes_on limit u v r e = ap (λ (b : Bool). record r { system = cond b (theory.attended M (W r) v r.system) (theory.preempt M (W r) v r.system) }) (eq-eqb v.user u e)

pub preempts : (limit u : ℕ) (v : Service) (r : Run) → v.user ≢ u → otherwise limit (Some u) (Some v) r ≡ broken_off v r
unfolding otherwise broken_off
preempts limit u v r e = ap (λ (b : Bool). record r { system = cond b (theory.attended M (W r) v r.system) (theory.preempt M (W r) v r.system) }) (ne_eqb v.user u e)

pub ruleset off_laws = (off_dials, off_types, off_quits, off_hangs)

pub ruleset on_laws = (on_dials, on_no_name, on_name, on_quits, on_hangs)

pub ruleset asked_laws = (asked_dials, asked_quits, asked_hangs)

pub ruleset word_laws = (wrong_word, already_on, logs_in)

pub ruleset in_laws = (in_dials, in_types, in_spends, in_quits, in_hangs)

pub ruleset go_laws = (idles, preempts_none, begins, goes_on, preempts)

append-nil : {X : Type 0} (xs : List X) → xs ≡ xs ++ []
append-nil [] = refl
append-nil (x ∷ xs) = ap (λ (ys : List _). x ∷ ys) (append-nil xs)

pub closes : (r : Run) → ended r ≡ closed r
unfolding ended closed
closes r = by_both r.system.service r.system.idling refl refl
  where
    by_both : (v : Option Service) (i : Option ℕ) → r.system.service ≡ v → r.system.idling ≡ i
        → record r { system = (let t = theory.end_open M (W r) v r.system in theory.end_idling_of M (W r) t.idling t) } ≡ record r { system = record r.system { service = None; idling = None; entries = r.system.entries ++ (end_notes v ++ idle_notes i r.system.clock) } }
    by_both None None a b = ap (λ (i : Option ℕ). record r { system = theory.end_idling_of M (W r) i r.system }) b ∙ (λ j. record r { system = record r.system { service = a j; idling = b j; entries = append-nil r.system.entries j } })
    by_both None (Some from) a b = ap (λ (i : Option ℕ). record r { system = theory.end_idling_of M (W r) i r.system }) b ∙ (λ j. record r { system = record r.system { service = a j; idling = None; entries = r.system.entries ++ Idle from r.system.clock ∷ [] } })
    by_both (Some v) None a b = ap (λ (i : Option ℕ). record r { system = theory.end_idling_of M (W r) i (theory.end_open M (W r) (Some v) r.system) }) b ∙ (λ j. record r { system = record r.system { service = None; idling = b j; entries = r.system.entries ++ (Serve v.tick v.user v.level v.ran AtEnd ∷ []) } })
    by_both (Some v) (Some from) a b = ap (λ (i : Option ℕ). record r { system = theory.end_idling_of M (W r) i (theory.end_open M (W r) (Some v) r.system) }) b ∙ (λ j. record r { system = record r.system { service = None; idling = None; entries = append_assoc r.system.entries (Serve v.tick v.user v.level v.ran AtEnd ∷ []) (Idle from r.system.clock ∷ []) j } })
