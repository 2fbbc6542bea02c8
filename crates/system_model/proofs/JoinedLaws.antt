-- What a step does to a run that is joined with its users' words and files.
use Rattle.std.proofs.Common.{◌≡◌, ◌≢◌, ℕ, zero, suc, ◌+◌, ◌-◌, ◌*◌, ◌<◌, ◌≤◌, Bool, true, false, cond, nat_eq, nat_lt, eq-eqb, ne_eqb, List, [], ◌∷◌, ◌++◌, Option, Some, None, length, drop, set, get_or, refl, sym, ◌∙◌, ap, arith, ◌⊎◌, inl, inr, lt-ltb, le-ltb}
use Rattle.std.proofs.lemmas.Bool.Decides.{nat_tests}
use Rattle.std.proofs.lemmas.List.{get_or-set_same}
use Rattle.time_sharing.specs.Machine.{Line, CutKind, Quit, Hang, Spent, Ending, CommonOp}
use Rattle.time_sharing.specs.System.{Timed, Service, Console, Off, On, Password, Session, Entry, Taken, Login, Swap, Refused, kind_of, without, EventKind, at, Event, Dials, Types, Quits, Hangs, LineTaken, DialTaken, QuitTaken, HangTaken, Cause, Time, Wait, Stop, Size, Preempt, AtEnd, max_lines, cause_of, service_after, service_entry, clock_entry, common_entry, consoles_after}
use Rattle.user_model.specs.Session.{user_rows, nobody}
use Rattle.user_model.specs.Inner.{Stored, blocks_of}
use Rattle.user_model.specs.User.{User, typed, opened, cut, step, ending, asks_clock, asks_common, in_store, hung}
use Rattle.plan_model.specs.Levels.{Levels, charged, dropped, woken, has_time, chosen, user_of, sum_of_levels}
use Rattle.plan_model.specs.Loads.{loaded, dumps, reads, clears}
use Rattle.plan_model.specs.Plan.{must_load, with_load, move_of, places_after, places_cut}
use Rattle.system_model.specs.World.{asked, check, line_blocks}
use Rattle.time_sharing.specs.Machine.{Machine}
use Rattle.time_sharing.specs.Rows.{machine}
use Rattle.time_sharing.specs.System.{World}
use Rattle.ctss_types.specs.declared.file.FileBody.{FileBody}
use Rattle.plan_model.specs.Plan.{Plan}
use Rattle.time_sharing.specs.Record as whole
use Rattle.system_model.specs.Run.{world, Run, taken, at_console, rise, rising, rise_of, raised, measure}
use Rattle.system_model.specs.Cases.{brought, reply_for, commons_for, levels_after, heard, line_taken, quit_taken, hang_taken, spent_taken, login_taken, dial_taken, idled, broken_off, stepped, waited, idle_notes, stop_notes, not_served, cut_taken, user_at, with_user}
use Rattle.system_model.specs.Joined.{with_stores, joined, with_store, hung_up, cut_user, stepped_to, counted, moved, at_places}
use Rattle.system_model.specs.Sound.{Sound, IsUser, HasSeat}
use Rattle.system_model.proofs.SoundLaws.{Alike, user_too, seats_too, checked_is_user}
use Rattle.system_model.proofs.CaseLaws.{taken_at, off_dials, off_types, off_quits, off_hangs, on_dials, on_no_name, on_name, on_quits, on_hangs, asked_dials, wrong_word, already_on, logs_in, asked_quits, asked_hangs, in_dials, in_types, in_spends, in_quits, in_hangs}

abbrev M : Machine User
M = machine user_rows

abbrev W : Run → World User Plan (List FileBody)
W r = world r

-- lists of users with their words and files

pub same_stores : (k : ℕ) (f g : ℕ → Stored) (ps : List User) → ((v : ℕ) → k ≤ v → f v ≡ g v) → with_stores k f ps ≡ with_stores k g ps
same_stores k f g [] h = refl
same_stores k f g (p ∷ ps) h =
    ap (λ (c : Stored). in_store c p ∷ with_stores (suc k) f ps) (h k (omega arith))
    ∙ ap (λ (qs : List User). in_store (g k) p ∷ qs) (same_stores (suc k) f g ps (λ v m. h v (omega (arith, m))))

-- stores from the same functions give the same run
pub joined_same : (f g : ℕ → Stored) (r : Run) → ((v : ℕ) → f v ≡ g v) → joined f r ≡ joined g r
unfolding joined
joined_same f g r h = λ j. record r { system = record r.system { users = same_stores 1 f g r.system.users (λ v m. h v) j; files = (h 0 j).files } }

as_many : (k : ℕ) (f : ℕ → Stored) (ps : List User) → length (with_stores k f ps) ≡ length ps
as_many k f [] = refl
as_many k f (p ∷ ps) = ap suc (as_many (suc k) f ps)

got : (k : ℕ) (f : ℕ → Stored) (ps : List User) (i : ℕ) → i < length ps → get_or (with_stores k f ps) i nobody ≡ in_store (f (k + i)) (get_or ps i nobody)
got k f [] i h = absurd (omega arith)
got k f (p ∷ ps) zero h = let e : k ≡ k + 0 = omega arith in ap (λ (v : ℕ). in_store (f v) p) e
got k f (p ∷ ps) (suc i) h = let e : suc k + i ≡ k + suc i = omega arith in got (suc k) f ps i (omega arith) ∙ ap (λ (v : ℕ). in_store (f v) (get_or ps i nobody)) e

pub user_joined : (f : ℕ → Stored) (ps : List User) (u : ℕ) → 0 < u → u ≤ length ps → user_at u (with_stores 1 f ps) ≡ in_store (f u) (user_at u ps)
user_joined f ps u pos within = let e : 1 + (u - 1) ≡ u = omega arith in got 1 f ps (u - 1) (omega arith) ∙ ap (λ (v : ℕ). in_store (f v) (user_at u ps)) e

other : (u v : ℕ) (c : Stored) (f : ℕ → Stored) → v ≢ u → with_store u c f v ≡ f v
other u v c f n = ap (λ (b : Bool). cond b c (f v)) (ne_eqb v u n)

own : (u : ℕ) (c : Stored) (f : ℕ → Stored) → with_store u c f u ≡ c
own u c f = ap (λ (b : Bool). cond b c (f u)) (eq-eqb u u refl)

was_set : (k : ℕ) (f : ℕ → Stored) (ps : List User) (i : ℕ) (c : Stored) (p : User) → with_stores k (with_store (k + i) c f) (set ps i p) ≡ set (with_stores k f ps) i (in_store c p)
was_set k f [] i c p = refl
was_set k f (q ∷ ps) zero c p =
    let e : k + 0 ≡ k = omega arith in
    ap (λ (n : ℕ). in_store (with_store n c f k) p ∷ with_stores (suc k) (with_store n c f) ps) e
    ∙ ap (λ (d : Stored). in_store d p ∷ with_stores (suc k) (with_store k c f) ps) (own k c f)
    ∙ ap (λ (qs : List User). in_store c p ∷ qs) (same_stores (suc k) (with_store k c f) f ps (λ v m. other k v c f (λ e. omega (arith, e, m))))
was_set k f (q ∷ ps) (suc i) c p =
    let e : k + suc i ≡ suc k + i = omega arith in
    ap (λ (n : ℕ). in_store (with_store n c f k) q ∷ with_stores (suc k) (with_store n c f) (set ps i p)) e
    ∙ ap (λ (d : Stored). in_store d q ∷ with_stores (suc k) (with_store (suc k + i) c f) (set ps i p)) (other (suc k + i) k c f (λ e. omega (arith, e)))
    ∙ ap (λ (qs : List User). in_store (f k) q ∷ qs) (was_set (suc k) f ps i c p)

pub set_joined : (f : ℕ → Stored) (ps : List User) (u : ℕ) (c : Stored) (p : User) → 0 < u → with_stores 1 (with_store u c f) (with_user u p ps) ≡ with_user u (in_store c p) (with_stores 1 f ps)
set_joined f ps u c p pos =
    let e : 1 + (u - 1) ≡ u = omega arith in
    ap (λ (n : ℕ). with_stores 1 (with_store n c f) (with_user u p ps)) (sym e) ∙ was_set 1 f ps (u - 1) c p

-- a user that keeps its store
kept : (f : ℕ → Stored) (ps : List User) (u : ℕ) (p : User) → 0 < u → with_stores 1 f (with_user u p ps) ≡ with_user u (in_store (f u) p) (with_stores 1 f ps)
kept f ps u p pos = same_stores 1 f (with_store u (f u) f) (with_user u p ps) (λ v m. same v) ∙ set_joined f ps u (f u) p pos
  where
    by_test : (v : ℕ) (b : Bool) → (b ≡ true → v ≡ u) → f v ≡ cond b (f u) (f v)
    by_test v true h = ap f (h refl)
    by_test v false h = refl

    same : (v : ℕ) → f v ≡ with_store u (f u) f v
    same v = by_test v (nat_eq v u) (λ e. grind (arith, nat_tests))

-- cases of a step that change no user, or one that keeps its store

pub heard_joined : (f : ℕ → Stored) (c : ℕ) (kind : EventKind) (now : Console) (more : List Entry) (r : Run) → heard c kind now more (joined f r) ≡ joined f (heard c kind now more r)
unfolding heard joined
heard_joined f c kind now more r = refl

pub idled_joined : (f : ℕ → Stored) (limit : ℕ) (r : Run) → idled limit (joined f r) ≡ joined f (idled limit r)
unfolding idled joined
idled_joined f limit r = refl

pub broken_off_joined : (f : ℕ → Stored) (v : Service) (r : Run) → broken_off v (joined f r) ≡ joined f (broken_off v r)
unfolding broken_off joined
broken_off_joined f v r = refl

pub raised_joined : (f : ℕ → Stored) (r : Run) → raised (joined f r) ≡ joined f (raised r)
unfolding rise joined
raised_joined f r = by_who (rising r)
  where
    by_who : (o : Option (ℕ × ℕ)) → rise_of o (joined f r) ≡ joined f (rise_of o r)
    by_who None = refl
    by_who (Some x) = refl

pub waited_joined : (f : ℕ → Stored) (v : Service) (r : Run) → waited v (joined f r) ≡ joined f (waited v r)
unfolding waited joined
waited_joined f v r = refl

-- the joined users are as many
pub is_user_too : (f : ℕ → Stored) (u : ℕ) (r : Run) → IsUser u r → IsUser u (joined f r)
unfolding joined
is_user_too f u r who = let e = as_many 1 f r.system.users in let h = who.within in record { some = who.some; within = omega (arith, e, h) }

on_same : (f : ℕ → Stored) (u : ℕ) (r : Run) → IsUser u r → (user_at u (joined f r).system.users).on ≡ (user_at u r.system.users).on
unfolding joined
on_same f u r who = ap (λ (p : User). p.on) (user_joined f r.system.users u who.some who.within)

lines_same : (f : ℕ → Stored) (u : ℕ) (r : Run) → IsUser u r → (user_at u (joined f r).system.users).lines ≡ (user_at u r.system.users).lines
unfolding joined
lines_same f u r who = ap (λ (p : User). p.lines) (user_joined f r.system.users u who.some who.within)

-- a user's store is not that of the common files
pub common_stays : (f : ℕ → Stored) (c : Stored) (u : ℕ) → 0 < u → with_store u c f 0 ≡ f 0
common_stays f c u some = other u 0 c f (λ e. omega (arith, e, some))

-- the stores where the session of a user is over
hung_some : (f : ℕ → Stored) (u : ℕ) (r : Run) → 0 < u → joined (with_store u (hung (f u)) f) r ≡ joined (hung_up u f) r
hung_some f zero r some = absurd (omega (arith, some))
hung_some f (suc u) r some = refl

-- a step that changes one user, and its store with it, with what it reads of the user
changed : (f : ℕ → Stored) (k : Stored → Stored) (change : User → User) (rest : List FileBody → List User → User → Run) (u : ℕ) (r : Run) → IsUser u r →
    ((c : Stored) (p : User) → change (in_store c p) ≡ in_store (k c) (change p)) →
    ((g : ℕ → Stored) (ps qs : List User) (p : User) (c : Stored) → qs ≡ with_stores 1 g ps → rest (g 0).files qs (in_store c p) ≡ joined g (rest r.system.files ps p)) →
    rest (f 0).files (with_user u (change (user_at u (with_stores 1 f r.system.users))) (with_stores 1 f r.system.users)) (user_at u (with_stores 1 f r.system.users))
    ≡ joined (with_store u (k (f u)) f) (rest r.system.files (with_user u (change (user_at u r.system.users)) r.system.users) (user_at u r.system.users))
changed f k change rest u r who commutes parts =
    ap (λ (p : User). rest (f 0).files (with_user u (change p) (with_stores 1 f r.system.users)) p) (user_joined f r.system.users u who.some who.within)
    ∙ ap (λ (p : User). rest (f 0).files (with_user u p (with_stores 1 f r.system.users)) (in_store (f u) (user_at u r.system.users))) (commutes (f u) (user_at u r.system.users))
    ∙ ap (λ (s : Stored). rest s.files (with_user u (in_store (k (f u)) (change (user_at u r.system.users))) (with_stores 1 f r.system.users)) (in_store (f u) (user_at u r.system.users))) (sym (common_stays f (k (f u)) u who.some))
    ∙ parts (with_store u (k (f u)) f) (with_user u (change (user_at u r.system.users)) r.system.users) _ (user_at u r.system.users) (f u) (sym (set_joined f r.system.users u (k (f u)) (change (user_at u r.system.users)) who.some))

-- a store that a user has already
own_again : (f : ℕ → Stored) (u : ℕ) (r : Run) → joined (with_store u (f u) f) r ≡ joined f r
own_again f u r = joined_same (with_store u (f u) f) f r (λ v. by_test v (nat_eq v u) (λ e. grind (arith, nat_tests)))
  where
    by_test : (v : ℕ) (b : Bool) → (b ≡ true → v ≡ u) → cond b (f u) (f v) ≡ f v
    by_test v true h = ap f (sym (h refl))
    by_test v false h = refl

typed_stored : (l : Line) (c : Stored) (p : User) → typed l (in_store c p) ≡ in_store c (typed l p)
unfolding typed
typed_stored l c p = refl

opened_stored : (c : Stored) (p : User) → opened (in_store c p) ≡ in_store c (opened p)
unfolding opened
opened_stored c p = refl

quit_stored : (c : Stored) (p : User) → cut Quit (in_store c p) ≡ in_store c (cut Quit p)
unfolding cut
quit_stored c p = refl

hang_stored : (c : Stored) (p : User) → cut Hang (in_store c p) ≡ in_store (hung c) (cut Hang p)
unfolding cut
hang_stored c p = refl

spent_stored : (c : Stored) (p : User) → cut Spent (in_store c p) ≡ in_store (hung c) (cut Spent p)
unfolding cut
spent_stored c p = refl

-- cases of a step that change one user

pub line_joined : (f : ℕ → Stored) (c u : ℕ) (l : Line) (r : Run) → IsUser u r → line_taken c u l (joined f r) ≡ joined f (line_taken c u l r)
unfolding line_taken joined
line_joined f c u l r who =
    changed f (λ d. d) (typed l) with_line u r who (typed_stored l) (λ g ps qs p d e. ap (λ (us : List User). with_line (g 0).files us p) e)
    ∙ own_again f u (line_taken c u l r)
  where
    with_line : List FileBody → List User → User → Run
    with_line files us p =
        record r {
          system = record r.system {
            users = us;
            files = files;
            plan = record r.system.plan { levels = woken (line_blocks p) u r.system.clock r.system.plan.levels };
            events = drop 1 r.system.events;
            idling = None;
            entries = r.system.entries ++ (idle_notes r.system.idling r.system.clock ++ Taken r.system.clock c LineTaken u p.own ∷ []);
          };
        }

pub login_joined : (f : ℕ → Stored) (c u : ℕ) (r : Run) → IsUser u r → login_taken c u (joined f r) ≡ joined f (login_taken c u r)
unfolding login_taken joined
login_joined f c u r who =
    changed f (λ d. d) opened (λ files us p. with_login files us) u r who opened_stored (λ g ps qs p d e. ap (with_login (g 0).files) e) ∙ own_again f u (login_taken c u r)
  where
    with_login : List FileBody → List User → Run
    with_login files us =
        record r {
          system = record r.system {
            users = us;
            files = files;
            events = drop 1 r.system.events;
            idling = None;
            consoles = set r.system.consoles (c - 1) (Session u);
            entries = r.system.entries ++ (idle_notes r.system.idling r.system.clock ++ Taken r.system.clock c LineTaken 0 0 ∷ Login r.system.clock c u ∷ []);
          };
        }

pub dial_joined : (f : ℕ → Stored) (c u : ℕ) (r : Run) → IsUser u r → dial_taken c u (joined f r) ≡ joined f (dial_taken c u r)
unfolding dial_taken joined
dial_joined f c u r who = ap told (user_joined f r.system.users u who.some who.within)
  where
    told : User → Run
    told p =
        record r {
          system = record r.system {
            users = with_stores 1 f r.system.users;
            files = (f 0).files;
            events = drop 1 r.system.events;
            idling = None;
            entries = r.system.entries ++ (idle_notes r.system.idling r.system.clock ++ Taken r.system.clock c DialTaken u p.own ∷ []);
          };
        }

-- a quit, a hang or a line too much
cut_joined : (f : ℕ → Stored) (k : Stored → Stored) (kind : CutKind) (c u : ℕ) (consoles : List Console) (r : Run) → IsUser u r → ((d : Stored) (p : User) → cut kind (in_store d p) ≡ in_store (k d) (cut kind p)) →
    cut_taken kind c u consoles (joined f r) ≡ joined (with_store u (k (f u)) f) (cut_taken kind c u consoles r)
unfolding joined
cut_joined f k kind c u consoles r who commutes =
    changed f k (cut kind) with_cut u r who commutes (λ g ps qs p d e. ap (λ (us : List User). with_cut (g 0).files us p) e)
  where
    with_cut : List FileBody → List User → User → Run
    with_cut files us p =
        record r {
          system = record r.system {
            users = us;
            files = files;
            plan = record r.system.plan { levels = dropped u r.system.plan.levels; places = places_cut kind u r.system.plan.places };
            consoles = consoles;
            events = drop 1 r.system.events;
            idling = None;
            service = not_served r.system.service u;
            entries = r.system.entries ++ (idle_notes r.system.idling r.system.clock ++ (stop_notes r.system.service u ++ Taken r.system.clock c (kind_of kind) u p.own ∷ []));
          };
        }

consoles_same : (f : ℕ → Stored) (r : Run) → (joined f r).system.consoles ≡ r.system.consoles
unfolding joined
consoles_same f r = refl

pub quit_joined : (f : ℕ → Stored) (c u : ℕ) (r : Run) → IsUser u r → quit_taken c u (joined f r) ≡ joined f (quit_taken c u r)
unfolding quit_taken
quit_joined f c u r who = ap (λ (cs : List Console). cut_taken Quit c u cs (joined f r)) (consoles_same f r) ∙ cut_joined f (λ d. d) Quit c u r.system.consoles r who quit_stored ∙ own_again f u (cut_taken Quit c u r.system.consoles r)

pub hang_joined : (f : ℕ → Stored) (c u : ℕ) (r : Run) → IsUser u r → hang_taken c u (joined f r) ≡ joined (hung_up u f) (hang_taken c u r)
unfolding hang_taken
hang_joined f c u r who = ap (λ (cs : List Console). cut_taken Hang c u (set (without u cs) (c - 1) Off) (joined f r)) (consoles_same f r) ∙ cut_joined f hung Hang c u (set (without u r.system.consoles) (c - 1) Off) r who hang_stored
    ∙ hung_some f u (cut_taken Hang c u (set (without u r.system.consoles) (c - 1) Off) r) who.some

pub spent_joined : (f : ℕ → Stored) (c u : ℕ) (r : Run) → IsUser u r → spent_taken c u (joined f r) ≡ joined (hung_up u f) (spent_taken c u r)
unfolding spent_taken
spent_joined f c u r who = ap (λ (cs : List Console). cut_taken Spent c u (without u cs) (joined f r)) (consoles_same f r) ∙ cut_joined f hung Spent c u (without u r.system.consoles) r who spent_stored
    ∙ hung_some f u (cut_taken Spent c u (without u r.system.consoles) r) who.some

pub blocks_same : (f : ℕ → Stored) (u : ℕ) (r : Run) → IsUser u r → blocks_of (user_at u (with_stores 1 f r.system.users)).inner ≡ blocks_of (user_at u r.system.users).inner
blocks_same f u r who = ap (λ (p : User). blocks_of p.inner) (user_joined f r.system.users u who.some who.within)

-- a load changes no user
pub brought_joined : (f : ℕ → Stored) (u : ℕ) (r : Run) → IsUser u r → brought u (joined f r) ≡ joined f (brought u r)
unfolding brought joined
brought_joined f u r who = ap loads (blocks_same f u r who)
  where
    loads : ℕ → Run
    loads n =
        let o = move_of r.swap r.system.plan.places u n in
        record r {
          system = record r.system {
            users = with_stores 1 f r.system.users;
            files = (f 0).files;
            plan = with_load r.system.plan u n;
            clock = r.system.clock + o.ticks;
            entries = r.system.entries ++ Swap r.system.clock u o.dumped o.read o.fresh ∷ [];
          };
        }

-- a step of a user, from what it leaves: of the user, and of the common files
pub stepped_joined : (f : ℕ → Stored) (v : Service) (store common : Stored) (p : User) (t : Ending) (asked : Bool) (made : Option CommonOp) (r : Run) → IsUser v.user r →
    in_store store p ≡ step r.system.clock (reply_for (joined f r) made) (in_store (f v.user) (user_at v.user r.system.users)) →
    t ≡ ending r.system.clock (reply_for (joined f r) made) (in_store (f v.user) (user_at v.user r.system.users)) →
    asked ≡ asks_clock (in_store (f v.user) (user_at v.user r.system.users)) →
    made ≡ asks_common (in_store (f v.user) (user_at v.user r.system.users)) →
    common.files ≡ commons_for (joined f r) made →
    stepped v (joined f r) ≡ joined (with_store v.user store (with_store 0 common f)) (stepped_to v p t asked (common_entry made v.user (reply_for (joined f r) made)) r)
unfolding stepped stepped_to joined
stepped_joined f v store common p t asked made r who leaves_it ends asks makes files =
    ap from_user (user_joined f r.system.users v.user who.some who.within)
    ∙ ap (λ (o : Option CommonOp). made_to o (in_store (f v.user) (user_at v.user r.system.users))) (sym makes)
    ∙ (λ j. to made (sym leaves_it j) (sym ends j) (sym asks j))
    ∙ same_levels (cause_of t (has_time r.system.plan.levels))
    ∙ (λ j. users_too (sym files j) (users_are j))
    ∙ ap (λ (s : Stored). users_too s.files (with_stores 1 after (with_user v.user p r.system.users))) (sym (common_stays (with_store 0 common f) store v.user who.some))
  where
    after : ℕ → Stored
    after = with_store v.user store (with_store 0 common f)

    -- with a cause
    to_by : List FileBody → Option CommonOp → Option Cause → List User → Levels → ℕ → Ending → Bool → Run
    to_by files made cause us levels blocks t asked =
        record r {
          system = record r.system {
            users = us;
            files = files;
            plan = record { levels = levels; places = places_after t v.user blocks r.system.plan.places };
            consoles = consoles_after t v.user r.system.consoles;
            clock = suc r.system.clock;
            service = service_after v cause;
            entries = r.system.entries ++ (clock_entry asked r.system.clock v.user ++ (common_entry made v.user (reply_for (joined f r) made) ++ service_entry v cause));
          };
        }

    to : Option CommonOp → User → Ending → Bool → Run
    to made q t asked =
        let cause = cause_of t (has_time r.system.plan.levels) in
        to_by (commons_for (joined f r) made) made cause (with_user v.user q (with_stores 1 f r.system.users)) (levels_after cause v.user q (suc r.system.clock) (charged v.user (suc r.system.clock) r.system.plan.levels)) (blocks_of q.inner) t asked

    made_to : Option CommonOp → User → Run
    made_to o q = to o (step r.system.clock (reply_for (joined f r) o) q) (ending r.system.clock (reply_for (joined f r) o) q) (asks_clock q)

    from_user : User → Run
    from_user q = made_to (asks_common q) q

    -- the queues don't look at the stores
    levels_same : (o : Option Cause) (now : ℕ) (q : Levels) → levels_after o v.user (in_store store p) now q ≡ levels_after o v.user p now q
    levels_same None now q = refl
    levels_same (Some Time) now q = refl
    levels_same (Some Wait) now q = refl
    levels_same (Some Stop) now q = refl
    levels_same (Some Size) now q = refl
    levels_same (Some Preempt) now q = refl
    levels_same (Some AtEnd) now q = refl

    same_levels : (o : Option Cause) →
        to_by (commons_for (joined f r) made) made o (with_user v.user (in_store store p) (with_stores 1 f r.system.users)) (levels_after o v.user (in_store store p) (suc r.system.clock) (charged v.user (suc r.system.clock) r.system.plan.levels)) (blocks_of p.inner) t asked
        ≡ to_by (commons_for (joined f r) made) made o (with_user v.user (in_store store p) (with_stores 1 f r.system.users)) (levels_after o v.user p (suc r.system.clock) (charged v.user (suc r.system.clock) r.system.plan.levels)) (blocks_of p.inner) t asked
    same_levels o = ap (λ (q : Levels). to_by (commons_for (joined f r) made) made o (with_user v.user (in_store store p) (with_stores 1 f r.system.users)) q (blocks_of p.inner) t asked) (levels_same o (suc r.system.clock) (charged v.user (suc r.system.clock) r.system.plan.levels))

    users_too : List FileBody → List User → Run
    users_too files us =
        let cause = cause_of t (has_time r.system.plan.levels) in
        to_by files made cause us (levels_after cause v.user p (suc r.system.clock) (charged v.user (suc r.system.clock) r.system.plan.levels)) (blocks_of p.inner) t asked

    -- the store of number 0 is no user's
    users_are : with_user v.user (in_store store p) (with_stores 1 f r.system.users) ≡ with_stores 1 after (with_user v.user p r.system.users)
    users_are =
        ap (λ (ps : List User). with_user v.user (in_store store p) ps) (same_stores 1 f (with_store 0 common f) r.system.users (λ w m. sym (other 0 w common f (λ e. omega (arith, e, m)))))
        ∙ sym (set_joined (with_store 0 common f) r.system.users v.user store p who.some)

-- events

accounts_same : (f : ℕ → Stored) (r : Run) → (joined f r).accounts ≡ r.accounts
unfolding joined
accounts_same f r = refl

-- an event that no session hears
quiet : (f : ℕ → Stored) (c : ℕ) (kind : EventKind) (now : Console) (more : List Entry) (r x y : Run) → x ≡ heard c kind now more (joined f r) → y ≡ heard c kind now more r → x ≡ joined (hung_up 0 f) y
quiet f c kind now more r x y a b = a ∙ heard_joined f c kind now more r ∙ ap (joined f) (sym b)

off_joined : (f : ℕ → Stored) (c : ℕ) (e : Event) (r : Run) → 0 < c → at_console c Off e (joined f r) ≡ joined (hung_up 0 f) (at_console c Off e r)
off_joined f c Dials r h = quiet f c DialTaken On [] r _ _ (off_dials c (joined f r) h) (off_dials c r h)
off_joined f c (Types l) r h = quiet f c LineTaken Off [] r _ _ (off_types c l (joined f r) h) (off_types c l r h)
off_joined f c Quits r h = quiet f c QuitTaken Off [] r _ _ (off_quits c (joined f r) h) (off_quits c r h)
off_joined f c Hangs r h = quiet f c HangTaken Off [] r _ _ (off_hangs c (joined f r) h) (off_hangs c r h)

clock_same : (f : ℕ → Stored) (r : Run) → (joined f r).system.clock ≡ r.system.clock
unfolding joined
clock_same f r = refl

refused : (f : ℕ → Stored) (c cause : ℕ) (r : Run) → heard c LineTaken On (Refused (joined f r).system.clock c cause ∷ []) (joined f r) ≡ heard c LineTaken On (Refused r.system.clock c cause ∷ []) (joined f r)
refused f c cause r = ap (λ (t : ℕ). heard c LineTaken On (Refused t c cause ∷ []) (joined f r)) (clock_same f r)

on_joined : (f : ℕ → Stored) (c : ℕ) (e : Event) (r : Run) → 0 < c → at_console c On e (joined f r) ≡ joined (hung_up 0 f) (at_console c On e r)
on_joined f c Dials r h = quiet f c DialTaken On [] r _ _ (on_dials c (joined f r) h) (on_dials c r h)
on_joined f c Quits r h = quiet f c QuitTaken On [] r _ _ (on_quits c (joined f r) h) (on_quits c r h)
on_joined f c Hangs r h = quiet f c HangTaken Off [] r _ _ (on_hangs c (joined f r) h) (on_hangs c r h)
on_joined f c (Types l) r h = by_name (asked l) refl
  where
    by_name : (o : Option ℕ) → asked l ≡ o → at_console c On (Types l) (joined f r) ≡ joined (hung_up 0 f) (at_console c On (Types l) r)
    by_name None e = quiet f c LineTaken On (Refused r.system.clock c 1 ∷ []) r _ _ (on_no_name c l (joined f r) h e ∙ refused f c 1 r) (on_no_name c l r h e)
    by_name (Some name) e = quiet f c LineTaken (Password name) [] r _ _ (on_name c l name (joined f r) h e) (on_name c l name r h e)

asked_joined : (f : ℕ → Stored) (c name : ℕ) (e : Event) (r : Run) → 0 < c → Sound r → at_console c (Password name) e (joined f r) ≡ joined (hung_up 0 f) (at_console c (Password name) e r)
asked_joined f c name Dials r h sound = quiet f c DialTaken (Password name) [] r _ _ (asked_dials c name (joined f r) h) (asked_dials c name r h)
asked_joined f c name Quits r h sound = quiet f c QuitTaken On [] r _ _ (asked_quits c name (joined f r) h) (asked_quits c name r h)
asked_joined f c name Hangs r h sound = quiet f c HangTaken Off [] r _ _ (asked_hangs c name (joined f r) h) (asked_hangs c name r h)
asked_joined f c name (Types word) r h sound = by_user (check r.accounts name word) refl
  where
    checks : check (joined f r).accounts name word ≡ check r.accounts name word
    checks = ap (λ (accounts : List _). check accounts name word) (accounts_same f r)

    by_on : (u : ℕ) → check r.accounts name word ≡ Some u → IsUser u r → (b : Bool) → (user_at u r.system.users).on ≡ b → at_console c (Password name) (Types word) (joined f r) ≡ joined (hung_up 0 f) (at_console c (Password name) (Types word) r)
    by_on u e who true on = quiet f c LineTaken On (Refused r.system.clock c 2 ∷ []) r _ _ (already_on c u name word (joined f r) h who.some (checks ∙ e) (on_same f u r who ∙ on) ∙ refused f c 2 r) (already_on c u name word r h who.some e on)
    by_on u e who false off =
        logs_in c u name word (joined f r) h who.some (checks ∙ e) (on_same f u r who ∙ off)
        ∙ login_joined f c u r who
        ∙ ap (joined f) (sym (logs_in c u name word r h who.some e off))

    by_user : (o : Option ℕ) → check r.accounts name word ≡ o → at_console c (Password name) (Types word) (joined f r) ≡ joined (hung_up 0 f) (at_console c (Password name) (Types word) r)
    by_user None e = quiet f c LineTaken On (Refused r.system.clock c 1 ∷ []) r _ _ (wrong_word c name word (joined f r) h (checks ∙ e) ∙ refused f c 1 r) (wrong_word c name word r h e)
    by_user (Some u) e = by_on u e (checked_is_user name word u r sound e) (user_at u r.system.users).on refl

lt_or_le : (a b : ℕ) → (a < b) ⊎ (b ≤ a)
lt_or_le a b = by_test (nat_lt a b) refl
  where
    by_test : (t : Bool) → nat_lt a b ≡ t → (a < b) ⊎ (b ≤ a)
    by_test true e = inl (grind (arith, nat_tests))
    by_test false e = inr (grind (arith, nat_tests))

in_joined : (f : ℕ → Stored) (c u : ℕ) (e : Event) (r : Run) → 0 < c → IsUser u r → at_console c (Session u) e (joined f r) ≡ joined (hung_up (cut_user (Session u) e r.system.users) f) (at_console c (Session u) e r)
in_joined f c u Dials r h who = in_dials c u (joined f r) who.some ∙ dial_joined f c u r who ∙ ap (joined f) (sym (in_dials c u r who.some))
in_joined f c u Quits r h who = in_quits c u (joined f r) who.some ∙ quit_joined f c u r who ∙ ap (joined f) (sym (in_quits c u r who.some))
in_joined f c u Hangs r h who = in_hangs c u (joined f r) who.some h ∙ hang_joined f c u r who ∙ ap (joined (hung_up u f)) (sym (in_hangs c u r who.some h))
in_joined f c u (Types l) r h who = elim (lt_or_le (user_at u r.system.users).lines max_lines) [ inl few ↦ typed_in few | inr many ↦ spent_in many ]
  where
    lines : (user_at u (joined f r).system.users).lines ≡ (user_at u r.system.users).lines
    lines = lines_same f u r who

    typed_in : (user_at u r.system.users).lines < max_lines → at_console c (Session u) (Types l) (joined f r) ≡ joined (hung_up (cut_user (Session u) (Types l) r.system.users) f) (at_console c (Session u) (Types l) r)
    typed_in few =
        in_types c u l (joined f r) who.some (let e = lines in omega (arith, e, few))
        ∙ line_joined f c u l r who
        ∙ ap (joined f) (sym (in_types c u l r who.some few))
        ∙ ap (λ (b : Bool). joined (hung_up (cond b 0 u) f) (at_console c (Session u) (Types l) r)) (sym (lt-ltb (user_at u r.system.users).lines max_lines few))

    spent_in : max_lines ≤ (user_at u r.system.users).lines → at_console c (Session u) (Types l) (joined f r) ≡ joined (hung_up (cut_user (Session u) (Types l) r.system.users) f) (at_console c (Session u) (Types l) r)
    spent_in many =
        in_spends c u l (joined f r) who.some (let e = lines in omega (arith, e, many))
        ∙ spent_joined f c u r who
        ∙ ap (joined (hung_up u f)) (sym (in_spends c u l r who.some many))
        ∙ ap (λ (b : Bool). joined (hung_up (cond b 0 u) f) (at_console c (Session u) (Types l) r)) (sym (le-ltb (user_at u r.system.users).lines max_lines many))

-- an event at a console, at which the words of a session that it ends go, and its files of mode 0
at_joined : (f : ℕ → Stored) (c : ℕ) (now : Console) (e : Event) (r : Run) → 0 < c → ((u : ℕ) → now ≡ Session u → IsUser u r) → Sound r →
    at_console c now e (joined f r) ≡ joined (hung_up (cut_user now e r.system.users) f) (at_console c now e r)
at_joined f c Off e r h who sound = off_joined f c e r h
at_joined f c On e r h who sound = on_joined f c e r h
at_joined f c (Password name) e r h who sound = asked_joined f c name e r h sound
at_joined f c (Session u) e r h who sound = in_joined f c u e r h (who u refl)

-- the event that is due
pub taken_joined : (f : ℕ → Stored) (e : Timed) (r : Run) → HasSeat e r → Sound r →
    taken e (joined f r) ≡ joined (hung_up (cut_user (get_or r.system.consoles (e.console - 1) Off) e.event r.system.users) f) (taken e r)
taken_joined f e r seat sound =
    taken_at e (joined f r) seat.some
    ∙ ap (λ (cs : List Console). at_console e.console (get_or cs (e.console - 1) Off) e.event (joined f r)) (consoles_same f r)
    ∙ at_joined f e.console (get_or r.system.consoles (e.console - 1) Off) e.event r seat.some (sound.sits (e.console - 1)) sound
    ∙ ap (joined (hung_up (cut_user (get_or r.system.consoles (e.console - 1) Off) e.event r.system.users) f)) (sym (taken_at e r seat.some))

-- soundness and the measure don't look at the stores

own_same : (k : ℕ) (f : ℕ → Stored) (ps : List User) (i : ℕ) → (get_or (with_stores k f ps) i nobody).own ≡ (get_or ps i nobody).own
own_same k f [] i = refl
own_same k f (p ∷ ps) zero = refl
own_same k f (p ∷ ps) (suc i) = own_same (suc k) f ps i

pub sound_joined : (f : ℕ → Stored) (r : Run) → Sound r → Sound (joined f r)
unfolding joined
sound_joined f r sound =
    record {
      few = let e = many in let h = sound.few in omega (arith, e, h);
      accounts = let e = many in let h = sound.accounts in omega (arith, e, h);
      seats = seats_too r (joined f r) r.system.events same sound.seats;
      sits = λ k u h. user_too r (joined f r) u same (sound.sits k u h);
      served = λ v h. user_too r (joined f r) v.user same (sound.served v h);
      ran = sound.ran;
      queued = λ u h. user_too r (joined f r) u same (sound.queued u h);
      owns = λ k. let e = own_same 1 f r.system.users k in let h = sound.owns k in omega (arith, e, h);
    }
  where
    many : length (with_stores 1 f r.system.users) ≡ length r.system.users
    many = as_many 1 f r.system.users

    same : Alike r (joined f r)
    same = record { users = many; accounts = refl; consoles = refl }

pub sound_unjoined : (f : ℕ → Stored) (r : Run) → Sound (joined f r) → Sound r
unfolding joined
sound_unjoined f r sound =
    record {
      few = let e = many in let h = sound.few in omega (arith, e, h);
      accounts = let e = many in let h = sound.accounts in omega (arith, e, h);
      seats = seats_too (joined f r) r r.system.events same sound.seats;
      sits = λ k u h. user_too (joined f r) r u same (sound.sits k u h);
      served = λ v h. user_too (joined f r) r v.user same (sound.served v h);
      ran = sound.ran;
      queued = λ u h. user_too (joined f r) r u same (sound.queued u h);
      owns = λ k. let e = own_same 1 f r.system.users k in let h = sound.owns k in omega (arith, e, h);
    }
  where
    many : length (with_stores 1 f r.system.users) ≡ length r.system.users
    many = as_many 1 f r.system.users

    same : Alike (joined f r) r
    same = record { users = sym many; accounts = refl; consoles = refl }

-- whether a load is due doesn't look at the stores
pub must_same : (f : ℕ → Stored) (u : ℕ) (r : Run) → IsUser u r →
    must_load (joined f r).system.plan u (blocks_of (user_at u (joined f r).system.users).inner) ≡ must_load r.system.plan u (blocks_of (user_at u r.system.users).inner)
unfolding joined
must_same f u r who = ap (λ (n : ℕ). must_load r.system.plan u n) (blocks_same f u r who)

-- the user of a service with its store
pub serves_joined : (f : ℕ → Stored) (u : ℕ) (r : Run) → IsUser u r → user_at u (joined f r).system.users ≡ in_store (f u) (user_at u r.system.users)
unfolding joined
serves_joined f u r who = user_joined f r.system.users u who.some who.within

-- another store for one user: that, and the others as before
pub with_own : (u : ℕ) (c : Stored) (f : ℕ → Stored) → with_store u c f u ≡ c
with_own u c f = own u c f

pub with_other : (u v : ℕ) (c : Stored) (f : ℕ → Stored) → v ≢ u → with_store u c f v ≡ f v
with_other u v c f n = other u v c f n

-- the measure of a run doesn't look at the stores

blocks_at : (k : ℕ) (f : ℕ → Stored) (ps : List User) (i : ℕ) → blocks_of (get_or (with_stores k f ps) i nobody).inner ≡ blocks_of (get_or ps i nobody).inner
blocks_at k f [] i = refl
blocks_at k f (p ∷ ps) zero = refl
blocks_at k f (p ∷ ps) (suc i) = blocks_at (suc k) f ps i

at_blocks : (f : ℕ → Stored) (ps : List User) (u : ℕ) → blocks_of (at nobody (with_stores 1 f ps) u).inner ≡ blocks_of (at nobody ps u).inner
at_blocks f ps zero = refl
at_blocks f ps (suc u) = blocks_at 1 f ps u

pub measure_joined : (limit : ℕ) (f : ℕ → Stored) (r : Run) → measure limit (joined f r) ≡ measure limit r
unfolding measure joined
measure_joined limit f r =
    ap (λ (n : ℕ). 68 * (limit - r.system.clock) + (68 * length r.system.events + (4 * sum_of_levels r.system.plan.levels + (2 * whole.is_open M (W r) r.system.service + n)))) (by_choice (user_of (chosen r.system.plan.levels)))
  where
    by_choice : (o : Option ℕ) → whole.as_number M (W r) (whole.must_load_of M (W r) o (record r.system { users = with_stores 1 f r.system.users; files = (f 0).files })) ≡ whole.as_number M (W r) (whole.must_load_of M (W r) o r.system)
    by_choice None = refl
    by_choice (Some u) = ap (λ (n : ℕ). whole.as_number M (W r) (must_load r.system.plan u n)) (at_blocks f r.system.users u)

-- a step's own changes, and then the places of its blocks
pub stepped_is : (v : Service) (p : User) (t : Ending) (asked : Bool) (notes : List Entry) (r : Run) → IsUser v.user r →
    at_places (places_after t v.user (blocks_of p.inner) r.system.plan.places)
    (counted v t asked notes (record r { system = record r.system { users = with_user v.user p r.system.users } })) ≡ stepped_to v p t asked notes r
unfolding counted stepped_to
stepped_is v p t asked notes r who =
    ap from_user (get_or-set_same r.system.users (v.user - 1) p nobody (let a = who.some in let b = who.within in omega (arith, a, b)))
  where
    from_user : User → Run
    from_user q =
        let cause = cause_of t (has_time r.system.plan.levels) in
        record r {
          system = record r.system {
            users = with_user v.user p r.system.users;
            plan = record {
              levels = levels_after cause v.user q (suc r.system.clock) (charged v.user (suc r.system.clock) r.system.plan.levels);
              places = places_after t v.user (blocks_of p.inner) r.system.plan.places;
            };
            consoles = consoles_after t v.user r.system.consoles;
            clock = suc r.system.clock;
            service = service_after v cause;
            entries = r.system.entries ++ (clock_entry asked r.system.clock v.user ++ (notes ++ service_entry v cause));
          };
        }

-- a load's own changes, and then the places of its blocks
pub brought_is : (u dumped read fresh : ℕ) (r : Run) →
    dumped ≡ dumps r.system.plan.places u (blocks_of (user_at u r.system.users).inner) →
    read ≡ reads r.system.plan.places u (blocks_of (user_at u r.system.users).inner) →
    fresh ≡ clears r.system.plan.places u (blocks_of (user_at u r.system.users).inner) →
    at_places (loaded r.system.plan.places u (blocks_of (user_at u r.system.users).inner)) (moved u dumped read fresh r) ≡ brought u r
unfolding brought moved
brought_is u dumped read fresh r a b c = λ j. at_places (loaded r.system.plan.places u (blocks_of (user_at u r.system.users).inner)) (noted (a j) (b j) (c j))
  where
    noted : ℕ → ℕ → ℕ → Run
    noted dumped read fresh =
        record r {
          system = record r.system {
            clock = r.system.clock + r.swap * (dumped + read);
            entries = r.system.entries ++ Swap r.system.clock u dumped read fresh ∷ [];
          };
        }
