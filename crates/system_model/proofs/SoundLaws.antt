-- Each case of a step keeps a state sound.
use Rattle.std.proofs.Common.{◌≡◌, ◌≢◌, ℕ, zero, suc, ◌+◌, ◌-◌, ◌*◌, ◌^◌, min, ◌<◌, ◌≤◌, Bool, true, false, cond, not, ◌||◌, ◌&&◌, nat_eq, nat_le, nat_lt, eq-eqb, List, [], ◌∷◌, ◌++◌, Option, Some, None, length, drop, set, get_or, map, refl, sym, ◌∙◌, ap, subst, arith, length-set, ◌⊎◌, inl, inr}
use Rattle.std.proofs.lemmas.List.{length-map}
use Rattle.std.specs.List.{All, list_any}
use Rattle.std.proofs.lemmas.List.Elements.{All-drop, All-weaker, All-push}
use Rattle.std.proofs.lemmas.Bool.Decides.{nat_tests}
use Rattle.ctss_types.specs.declared.session.Waiting.{Waiting}
use Rattle.time_sharing.specs.System.{Timed, Service, Console, Off, On, Password, Session, out_of, without, next_tick, service_after, consoles_after, Entry, EventKind, Event, Dials, Types, Quits, Hangs, LineTaken, DialTaken, QuitTaken, HangTaken, max_lines, Cause, Time, Wait, Stop, Size, Preempt, AtEnd}
use Rattle.plan_model.specs.Levels.{Levels, chosen, first_of, user_of, waits, is_in, is_user, dropped, without_user, woken, one_less, entered, level_of_words, charged, ticked, sunk, entered_again, level_in, has_time, command_blocks, from_now, preempted, has_waited, first_that, at_or, first_with, riser, goes_up, risen}
use Rattle.system_model.specs.Run.{Run, next, taken, at_console, otherwise, attended, rise, rising, by_rising, by_due, due_of, with_one_event}
use Rattle.time_sharing.specs.Machine.{Line, Ending, LoggedOut, Went, Stopped, Resized, Replaced}
use Rattle.time_sharing.specs.Rows.{some_line}
use Rattle.user_model.specs.Inner.{blocks_of}
use Rattle.time_sharing.specs.System as theory
use Rattle.user_model.specs.Session.{nobody}
use Rattle.user_model.specs.User.{User, typed, opened, cut, can_step, step, ending, asks_common}
use Rattle.system_model.specs.World.{asked, check, account_in, account_with, password_by}
use Rattle.ctss_types.specs.Words.{words_of}
use Rattle.ctss_types.specs.declared.script.Account.{Account}
use Rattle.system_model.proofs.CaseLaws.{next_due, taken_at, off_dials, off_types, off_quits, off_hangs, on_dials, on_no_name, on_name, on_quits, on_hangs, asked_dials, wrong_word, already_on, logs_in, asked_quits, asked_hangs, in_dials, in_types, in_spends, in_quits, in_hangs, idles, preempts_none, begins, goes_on, preempts, attended_loads, attended_steps, attended_waits}
use Rattle.plan_model.specs.Plan.{must_load}
use Rattle.system_model.specs.Cases.{brought, reply_for, levels_after, user_at, heard, line_taken, quit_taken, hang_taken, spent_taken, login_taken, dial_taken, idled, broken_off, stepped, waited, not_served}
use Rattle.system_model.specs.Sound.{Sound, IsUser, HasSeat}

first_holds : (rows : List (List Waiting)) (l m : ℕ) (x : Waiting) → first_of l rows ≡ Some (m, x) → is_in x.user rows ≡ true
first_holds [] l m x h = cc
first_holds ([] ∷ rows) l m x h = first_holds rows (suc l) m x h
first_holds ((y ∷ row) ∷ rows) l m x h =
    let p : ◌≡◌ {A = ℕ × Waiting} (l, y) (m, x) = cc in let e : y ≡ x = ap (λ (q : ℕ × Waiting). q.1) p in
    let t : nat_eq y.user x.user ≡ true = grind (arith, nat_tests) in
    ap (λ (b : Bool). (b || list_any (is_user x.user) row) || is_in x.user rows) t

pub first_user : (r : Run) (m : ℕ) (x : Waiting) → Sound r → chosen r.system.plan.levels ≡ Some (m, x) → IsUser x.user r
unfolding chosen waits
first_user r m x sound h = sound.queued x.user (first_holds r.system.plan.levels.rows 0 m x h)

pub seat_user : (r : Run) (k u : ℕ) (d : Console) → Sound r → k < length r.system.consoles → Session u ≡ get_or r.system.consoles k d → IsUser u r
seat_user r k u d sound h e = sound.sits k u (sym (e ∙ any_default r.system.consoles k d Off h))
  where
    any_default : (xs : List Console) (i : ℕ) (d e : Console) → i < length xs → get_or xs i d ≡ get_or xs i e
    any_default [] i d e h = absurd (omega arith)
    any_default (x ∷ xs) zero d e h = refl
    any_default (x ∷ xs) (suc i) d e h = any_default xs i d e (omega arith)

-- parts

get-set : {X : Type 0} (P : X → Type 0) (xs : List X) (i j : ℕ) (x d : X) → P x → P (get_or xs j d) → P (get_or (set xs i x) j d)
get-set P [] i j x d p q = q
get-set P (y ∷ ys) zero zero x d p q = p
get-set P (y ∷ ys) zero (suc j) x d p q = q
get-set P (y ∷ ys) (suc i) zero x d p q = q
get-set P (y ∷ ys) (suc i) (suc j) x d p q = get-set P ys i j x d p q

get-map : (u k v : ℕ) (cs : List Console) → get_or (without u cs) k Off ≡ Session v → get_or cs k Off ≡ Session v
get-map u k v [] h = h
get-map u zero v (c ∷ cs) h = one c h
  where
    by_test : (w : ℕ) (b : Bool) → cond b On (Session w) ≡ Session v → Session w ≡ Session v
    by_test w true h = cc
    by_test w false h = h

    one : (c : Console) → out_of u c ≡ Session v → c ≡ Session v
    one Off h = cc
    one On h = cc
    one (Password name) h = cc
    one (Session w) h = by_test w (nat_eq w u) h
get-map u (suc k) v (c ∷ cs) h = get-map u k v cs h

all-drop : {X : Type 0} (P : X → Type 0) (xs : List X) → All P xs → All P (drop 1 xs)
all-drop P xs h = All-drop P 1 xs h

without_user-keeps : (v u : ℕ) (row : List Waiting) → list_any (is_user v) (without_user u row) ≡ true → list_any (is_user v) row ≡ true
without_user-keeps v u [] h = h
without_user-keeps v u (x ∷ xs) h = by_test (without_user-keeps v u xs) (nat_eq x.user u) (nat_eq x.user v) refl h
  where
    by_test : (list_any (is_user v) (without_user u xs) ≡ true → list_any (is_user v) xs ≡ true) → (b d : Bool) → nat_eq x.user v ≡ d → list_any (is_user v) (cond (not b) (x ∷ without_user u xs) (without_user u xs)) ≡ true → (d || list_any (is_user v) xs) ≡ true
    by_test rest b true e h = refl
    by_test rest true false e h = rest h
    by_test rest false false e h = rest (ap (λ (d : Bool). d || list_any (is_user v) (without_user u xs)) (sym e) ∙ h)

or-either : (a b : Bool) → (a || b) ≡ true → (a ≡ true) ⊎ (b ≡ true)
or-either true b h = inl refl
or-either false b h = inr h

or-left : (a b : Bool) → a ≡ true → (a || b) ≡ true
or-left a b h = ap (λ (x : Bool). x || b) h

or-right : (a b : Bool) → b ≡ true → (a || b) ≡ true
or-right true b h = refl
or-right false b h = h

is_in-without_user : (v u : ℕ) (rows : List (List Waiting)) → is_in v (map (without_user u) rows) ≡ true → is_in v rows ≡ true
is_in-without_user v u [] h = h
is_in-without_user v u (row ∷ rows) h = elim (or-either (list_any (is_user v) (without_user u row)) (is_in v (map (without_user u) rows)) h) [ inl a ↦ or-left (list_any (is_user v) row) (is_in v rows) (without_user-keeps v u row a) | inr b ↦ or-right (list_any (is_user v) row) (is_in v rows) (is_in-without_user v u rows b) ]

any-less : (v u : ℕ) (row : List Waiting) → list_any (is_user v) (map (one_less u) row) ≡ list_any (is_user v) row
any-less v u [] = refl
any-less v u (x ∷ xs) = rw (any-less v u xs) (ap (λ (a : ℕ). nat_eq a v || list_any (is_user v) xs) (by_test (nat_eq x.user u)))
  where
    by_test : (b : Bool) → (cond b (record x { left = x.left - 1 }) x).user ≡ x.user
    by_test true = refl
    by_test false = refl

is_in-less : (v u : ℕ) (rows : List (List Waiting)) → is_in v (map (map (one_less u)) rows) ≡ is_in v rows
is_in-less v u [] = refl
is_in-less v u (row ∷ rows) = rw (any-less v u row, is_in-less v u rows) refl

any-append : (v : ℕ) (x : Waiting) (row : List Waiting) → list_any (is_user v) (row ++ x ∷ []) ≡ true → (x.user ≡ v) ⊎ (list_any (is_user v) row ≡ true)
any-append v x [] h = elim (or-either (nat_eq x.user v) false h) [ inl a ↦ inl (grind (arith, nat_tests)) | inr b ↦ inr b ]
any-append v x (y ∷ row) h = elim (or-either (nat_eq y.user v) (list_any (is_user v) (row ++ x ∷ [])) h) [ inl a ↦ inr (or-left (nat_eq y.user v) (list_any (is_user v) row) a) | inr b ↦ elim (any-append v x row b) [ inl e ↦ inl e | inr k ↦ inr (or-right (nat_eq y.user v) (list_any (is_user v) row) k) ] ]

is_in-enter : (v l : ℕ) (x : Waiting) (rows : List (List Waiting)) → is_in v (set rows l (get_or rows l [] ++ x ∷ [])) ≡ true → (x.user ≡ v) ⊎ (is_in v rows ≡ true)
is_in-enter v l x [] h = inr h
is_in-enter v zero x (row ∷ rows) h = elim (or-either (list_any (is_user v) (row ++ x ∷ [])) (is_in v rows) h) [ inr b ↦ inr (or-right (list_any (is_user v) row) (is_in v rows) b) | inl a ↦ elim (any-append v x row a) [ inl e ↦ inl e | inr k ↦ inr (or-left (list_any (is_user v) row) (is_in v rows) k) ] ]
is_in-enter v (suc l) x (row ∷ rows) h = elim (or-either (list_any (is_user v) row) (is_in v (set rows l (get_or rows l [] ++ x ∷ []))) h) [ inl a ↦ inr (or-left (list_any (is_user v) row) (is_in v rows) a) | inr b ↦ elim (is_in-enter v l x rows b) [ inl e ↦ inl e | inr k ↦ inr (or-right (list_any (is_user v) row) (is_in v rows) k) ] ]

-- the queues' users

wakes_user : (n u now : ℕ) (q : Levels) (v : ℕ) → waits v (woken n u now q) ≡ true → (u ≡ v) ⊎ (waits v q ≡ true)
unfolding woken waits entered
wakes_user n u now q v h = by_test (waits u q) h
  where
    by_test : (b : Bool) → waits v (cond b q (entered n u now q)) ≡ true → (u ≡ v) ⊎ (waits v q ≡ true)
    by_test true h = inr h
    by_test false h = is_in-enter v (level_of_words q.wq (256 * n)) (record { user = u; left = q.quantum * 2 ^ level_of_words q.wq (256 * n); since = now }) q.rows h

dropped_user : (u : ℕ) (q : Levels) (v : ℕ) → waits v (dropped u q) ≡ true → waits v q ≡ true
unfolding dropped waits
dropped_user u q v h = is_in-without_user v u q.rows h

ticked_user : (u : ℕ) (q : Levels) (v : ℕ) → waits v (ticked u q) ≡ true → waits v q ≡ true
unfolding ticked waits
ticked_user u q v h = sym (is_in-less v u q.rows) ∙ h

sunk_user : (u now : ℕ) (q : Levels) (v : ℕ) → waits v (sunk u now q) ≡ true → (u ≡ v) ⊎ (waits v q ≡ true)
unfolding sunk waits dropped
sunk_user u now q v h = elim (is_in-enter v (min (level_in (chosen q) + 1) 8) (record { user = u; left = q.quantum * 2 ^ min (level_in (chosen q) + 1) 8; since = now }) (map (without_user u) q.rows) h) [ inl e ↦ inl e | inr k ↦ inr (is_in-without_user v u q.rows k) ]

charged_user : (u now : ℕ) (q : Levels) (v : ℕ) → waits v (charged u now q) ≡ true → (u ≡ v) ⊎ (waits v q ≡ true)
unfolding charged
charged_user u now q v h = by_test (has_time q) h
  where
    by_test : (b : Bool) → waits v (cond b (ticked u q) (sunk u now q)) ≡ true → (u ≡ v) ⊎ (waits v q ≡ true)
    by_test true h = inr (ticked_user u q v h)
    by_test false h = sunk_user u now q v h

entered_user : (n u now : ℕ) (q : Levels) (v : ℕ) → waits v (entered n u now (dropped u q)) ≡ true → (u ≡ v) ⊎ (waits v q ≡ true)
unfolding waits entered dropped
entered_user n u now q v h = elim (is_in-enter v (level_of_words q.wq (256 * n)) (record { user = u; left = q.quantum * 2 ^ level_of_words q.wq (256 * n); since = now }) (map (without_user u) q.rows) h) [ inl e ↦ inl e | inr k ↦ inr (is_in-without_user v u q.rows k) ]

risen_user : (u l now : ℕ) (q : Levels) (v : ℕ) → waits v (risen u l now q) ≡ true → (u ≡ v) ⊎ (waits v q ≡ true)
unfolding waits risen dropped
risen_user u l now q v h = elim (is_in-enter v l (record { user = u; left = q.quantum * 2 ^ l; since = now }) (map (without_user u) q.rows) h) [ inl e ↦ inl e | inr k ↦ inr (is_in-without_user v u q.rows k) ]

any-now : (v u now : ℕ) (row : List Waiting) → list_any (is_user v) (map (from_now u now) row) ≡ list_any (is_user v) row
any-now v u now [] = refl
any-now v u now (x ∷ xs) = rw (any-now v u now xs) (ap (λ (a : ℕ). nat_eq a v || list_any (is_user v) xs) (by_test (nat_eq x.user u)))
  where
    by_test : (b : Bool) → (cond b (record x { since = now }) x).user ≡ x.user
    by_test true = refl
    by_test false = refl

is_in-now : (v u now : ℕ) (rows : List (List Waiting)) → is_in v (map (map (from_now u now)) rows) ≡ is_in v rows
is_in-now v u now [] = refl
is_in-now v u now (row ∷ rows) = rw (any-now v u now row, is_in-now v u now rows) refl

preempted_user : (u now : ℕ) (q : Levels) (v : ℕ) → waits v (preempted u now q) ≡ true → waits v q ≡ true
unfolding preempted waits
preempted_user u now q v h = sym (is_in-now v u now q.rows) ∙ h

again_user : (b : Bool) (u now : ℕ) (q : Levels) (v : ℕ) → waits v (entered_again b u now (dropped u q)) ≡ true → (u ≡ v) ⊎ (waits v q ≡ true)
again_user false u now q v h = inr (dropped_user u q v h)
again_user true u now q v h = entered_user command_blocks u now q v h

left_user : (o : Option Cause) (u : ℕ) (p : User) (now : ℕ) (q : Levels) (v : ℕ) → waits v (levels_after o u p now q) ≡ true → (u ≡ v) ⊎ (waits v q ≡ true)
left_user None u p now q v h = inr h
left_user (Some Time) u p now q v h = inr h
left_user (Some Wait) u p now q v h = inr (dropped_user u q v h)
left_user (Some Stop) u p now q v h = again_user (some_line p.unread) u now q v h
left_user (Some Size) u p now q v h = entered_user (blocks_of p.inner) u now q v h
left_user (Some Preempt) u p now q v h = inr h
left_user (Some AtEnd) u p now q v h = inr h

-- a state with as many users and consoles, and the same accounts
pub record Alike (r s : Run) : Type 0 where
  pub users : length s.system.users ≡ length r.system.users
  pub accounts : s.accounts ≡ r.accounts
  pub consoles : length s.system.consoles ≡ length r.system.consoles

pub user_too : (r s : Run) (u : ℕ) → Alike r s → IsUser u r → IsUser u s
user_too r s u same h = let e = same.users in let a = h.some in let b = h.within in record { some = a; within = omega (arith, e, b) }

seat_too : (r s : Run) → Alike r s → (x : Timed) → HasSeat x r → HasSeat x s
seat_too r s same x h = let e = same.consoles in let a = h.some in let b = h.within in record { some = a; within = omega (arith, e, b) }

pub seats_too : (r s : Run) (es : List Timed) → Alike r s → All (λ (x : Timed). HasSeat x r) es → All (λ (x : Timed). HasSeat x s) es
seats_too r s es same h = All-weaker (λ (x : Timed). HasSeat x r) (λ (x : Timed). HasSeat x s) (seat_too r s same) es h

-- users and consoles that may have changed, and the rest as it was
sound_by : (r s : Run) → Alike r s → Sound r
    → All (λ (x : Timed). HasSeat x r) s.system.events
    → ((k u : ℕ) → get_or s.system.consoles k Off ≡ Session u → IsUser u r)
    → ((v : Service) → s.system.service ≡ Some v → IsUser v.user r × (v.ran ≤ s.system.clock))
    → ((u : ℕ) → waits u s.system.plan.levels ≡ true → IsUser u r)
    → ((k : ℕ) → (get_or s.system.users k nobody).own ≤ s.system.clock)
    → Sound s
sound_by r s same sound events sits serves queued owns =
    record {
      few = let e = same.users in let a = sound.few in omega (arith, e, a);
      accounts = let e = same.users in let a = sound.accounts in rw same.accounts (omega (arith, e, a));
      seats = seats_too r s s.system.events same events;
      sits = λ k u h. user_too r s u same (sits k u h);
      served = λ v h. user_too r s v.user same (serves v h).0;
      ran = λ v h. (serves v h).1;
      queued = λ u h. user_too r s u same (queued u h);
      owns = owns;
    }

still : (r : Run) → Sound r → (v : Service) → r.system.service ≡ Some v → IsUser v.user r × (v.ran ≤ r.system.clock)
still r sound v h = (sound.served v h, sound.ran v h)

not_still : (r : Run) (u : ℕ) → Sound r → (v : Service) → not_served r.system.service u ≡ Some v → IsUser v.user r × (v.ran ≤ r.system.clock)
not_still r u sound v h = still r sound v (back r.system.service h)
  where
    by_test : (w : Service) (b : Bool) → cond b None (Some w) ≡ Some v → Some w ≡ Some v
    by_test w true h = cc
    by_test w false h = h

    back : (o : Option Service) → not_served o u ≡ Some v → o ≡ Some v
    back None h = h
    back (Some w) h = by_test w (nat_eq w.user u) h

put_own : (r : Run) (u t : ℕ) (p : User) → p.own ≤ t → ((k : ℕ) → (get_or r.system.users k nobody).own ≤ t) → (k : ℕ) → (get_or (set r.system.users (u - 1) p) k nobody).own ≤ t
put_own r u t p h owns k = get-set (λ (x : User). x.own ≤ t) r.system.users (u - 1) k p nobody h (owns k)

put_seat : (r : Run) (c : ℕ) (now : Console) → Sound r → ((u : ℕ) → now ≡ Session u → IsUser u r) → (k u : ℕ) → get_or (set r.system.consoles (c - 1) now) k Off ≡ Session u → IsUser u r
put_seat r c now sound h k u = get-set (λ (x : Console). x ≡ Session u → IsUser u r) r.system.consoles (c - 1) k now Off (h u) (sound.sits k u)

seats_left : (r : Run) → Sound r → All (λ (x : Timed). HasSeat x r) (drop 1 r.system.events)
seats_left r sound = all-drop (λ (x : Timed). HasSeat x r) r.system.events sound.seats

pub sound_line : (c u : ℕ) (l : Line) (r : Run) → Sound r → IsUser u r → Sound (line_taken c u l r)
unfolding line_taken typed
sound_line c u l r sound who =
    sound_by r (line_taken c u l r) (record { users = length-set _ _ _; accounts = refl; consoles = refl }) sound (seats_left r sound)
    sound.sits
    (still r sound)
    (λ v h. elim (wakes_user _ u r.system.clock r.system.plan.levels v h) [ inl e ↦ subst (λ (w : ℕ). IsUser w r) e who | inr k ↦ sound.queued v k ])
    (put_own r u r.system.clock _ (sound.owns (u - 1)) sound.owns)

pub sound_quit : (c u : ℕ) (r : Run) → Sound r → Sound (quit_taken c u r)
unfolding quit_taken cut
sound_quit c u r sound =
    sound_by r (quit_taken c u r) (record { users = length-set _ _ _; accounts = refl; consoles = refl }) sound (seats_left r sound)
    sound.sits (not_still r u sound)
    (λ v h. sound.queued v (dropped_user u r.system.plan.levels v h))
    (put_own r u r.system.clock _ (sound.owns (u - 1)) sound.owns)

pub sound_hang : (c u : ℕ) (r : Run) → Sound r → Sound (hang_taken c u r)
unfolding hang_taken cut
sound_hang c u r sound =
    sound_by r (hang_taken c u r) (record { users = length-set _ _ _; accounts = refl; consoles = simp (length-set, length-map) }) sound (seats_left r sound)
    (λ k v. get-set (λ (x : Console). x ≡ Session v → IsUser v r) (without u r.system.consoles) (c - 1) k Off Off (λ e. cc) (λ e. sound.sits k v (get-map u k v r.system.consoles e)))
    (not_still r u sound)
    (λ v h. sound.queued v (dropped_user u r.system.plan.levels v h))
    (put_own r u r.system.clock _ (sound.owns (u - 1)) sound.owns)

pub sound_spent : (c u : ℕ) (r : Run) → Sound r → Sound (spent_taken c u r)
unfolding spent_taken cut
sound_spent c u r sound =
    sound_by r (spent_taken c u r) (record { users = length-set _ _ _; accounts = refl; consoles = simp length-map }) sound (seats_left r sound)
    (λ k v e. sound.sits k v (get-map u k v r.system.consoles e))
    (not_still r u sound)
    (λ v h. sound.queued v (dropped_user u r.system.plan.levels v h))
    (put_own r u r.system.clock _ (sound.owns (u - 1)) sound.owns)

pub sound_login : (c u : ℕ) (r : Run) → Sound r → IsUser u r → Sound (login_taken c u r)
unfolding login_taken opened
sound_login c u r sound who =
    sound_by r (login_taken c u r) (record { users = length-set _ _ _; accounts = refl; consoles = length-set _ _ _ }) sound (seats_left r sound)
    (put_seat r c (Session u) sound (λ v e. let p : u ≡ v = cc in subst (λ (w : ℕ). IsUser w r) p who))
    (still r sound) sound.queued
    (put_own r u r.system.clock _ (sound.owns (u - 1)) sound.owns)

pub sound_dial : (c u : ℕ) (r : Run) → Sound r → Sound (dial_taken c u r)
unfolding dial_taken
sound_dial c u r sound =
    sound_by r (dial_taken c u r) (record { users = refl; accounts = refl; consoles = refl }) sound (seats_left r sound)
    sound.sits (still r sound) sound.queued sound.owns

pub sound_heard : (c : ℕ) (kind : EventKind) (now : Console) (more : List Entry) (r : Run) → Sound r → ((u : ℕ) → now ≡ Session u → IsUser u r) → Sound (heard c kind now more r)
unfolding heard
sound_heard c kind now more r sound quiet =
    sound_by r (heard c kind now more r) (record { users = refl; accounts = refl; consoles = length-set _ _ _ }) sound (seats_left r sound)
    (put_seat r c now sound quiet) (still r sound) sound.queued sound.owns

pub sound_broken_off : (v : Service) (r : Run) → Sound r → Sound (broken_off v r)
unfolding broken_off
sound_broken_off v r sound =
    sound_by r (broken_off v r) (record { users = refl; accounts = refl; consoles = refl }) sound sound.seats
    sound.sits (λ w h. cc) (λ u h. sound.queued u (preempted_user v.user r.system.clock r.system.plan.levels u h)) sound.owns

pub sound_rise : (u l : ℕ) (r : Run) → Sound r → IsUser u r → Sound (rise u l r)
unfolding rise
sound_rise u l r sound who =
    sound_by r (rise u l r) (record { users = refl; accounts = refl; consoles = refl }) sound sound.seats
    sound.sits (still r sound)
    (λ v h. elim (risen_user u l r.system.clock r.system.plan.levels v h) [ inl e ↦ subst (λ (w : ℕ). IsUser w r) e who | inr k ↦ sound.queued v k ])
    sound.owns

none_lost : (t limit : ℕ) (e : Timed) → t < limit → t < e.tick → t ≤ min e.tick limit
none_lost t limit e h k = omega arith

pub sound_idled : (limit : ℕ) (r : Run) → Sound r → r.system.clock ≤ next_tick limit r.system.events → Sound (idled limit r)
unfolding idled
sound_idled limit r sound on =
    sound_by r (idled limit r) (record { users = refl; accounts = refl; consoles = refl }) sound sound.seats
    sound.sits (λ v h. let k = sound.ran v h in (sound.served v h, omega (arith, k, on))) sound.queued
    (λ k. let h = sound.owns k in omega (arith, h, on))

-- a charged user and the others in the queues are users
queued_charged : (v : Service) (r : Run) (u : ℕ) → Sound r → IsUser v.user r → waits u (charged v.user (suc r.system.clock) r.system.plan.levels) ≡ true → IsUser u r
queued_charged v r u sound who h = elim (charged_user v.user (suc r.system.clock) r.system.plan.levels u h) [ inl e ↦ subst (λ (w : ℕ). IsUser w r) e who | inr k ↦ sound.queued u k ]

pub sound_waited : (v : Service) (r : Run) → Sound r → IsUser v.user r → Sound (waited v r)
unfolding waited
sound_waited v r sound who =
    sound_by r (waited v r) (record { users = refl; accounts = refl; consoles = refl }) sound sound.seats
    sound.sits (λ w h. cc)
    (λ u h. queued_charged v r u sound who (dropped_user v.user (charged v.user (suc r.system.clock) r.system.plan.levels) u h))
    (λ k. let h = sound.owns k in omega (arith, h))

behind_service : (v : Service) (o : Option Cause) (w : Service) → service_after v o ≡ Some w → (v.user ≡ w.user) × (suc v.ran ≡ w.ran)
behind_service v None w h = let e : ◌≡◌ {A = Service} (record v { ran = suc v.ran }) w = cc in (ap (λ (x : Service). x.user) e, ap (λ (x : Service). x.ran) e)
behind_service v (Some cause) w h = cc

left_seats : (r : Run) (t : Ending) (u k v : ℕ) → Sound r → get_or (consoles_after t u r.system.consoles) k Off ≡ Session v → IsUser v r
left_seats r LoggedOut u k v sound h = sound.sits k v (get-map u k v r.system.consoles h)
left_seats r Went u k v sound h = sound.sits k v h
left_seats r Stopped u k v sound h = sound.sits k v h
left_seats r Resized u k v sound h = sound.sits k v h
left_seats r Replaced u k v sound h = sound.sits k v h

as_many : (t : Ending) (u : ℕ) (cs : List Console) → length (consoles_after t u cs) ≡ length cs
as_many LoggedOut u cs = simp length-map
as_many Went u cs = refl
as_many Stopped u cs = refl
as_many Resized u cs = refl
as_many Replaced u cs = refl

pub sound_stepped : (v : Service) (r : Run) → Sound r → IsUser v.user r → v.ran ≤ r.system.clock → Sound (stepped v r)
unfolding stepped step
sound_stepped v r sound who ran =
    sound_by r (stepped v r) (record { users = length-set _ _ _; accounts = refl; consoles = as_many _ v.user r.system.consoles }) sound sound.seats
    (λ k u h. left_seats r _ v.user k u sound h)
    (λ w h. let e = behind_service v _ w h in (subst (λ (u : ℕ). IsUser u r) e.0 who, (let f = e.1 in omega (arith, f, ran))))
    (λ u h. elim (left_user (theory.cause_of (ending r.system.clock (reply_for r (asks_common (user_at v.user r.system.users))) (user_at v.user r.system.users)) (has_time r.system.plan.levels)) v.user (step r.system.clock (reply_for r (asks_common (user_at v.user r.system.users))) (user_at v.user r.system.users)) (suc r.system.clock) (charged v.user (suc r.system.clock) r.system.plan.levels) u h)
    [ inl e ↦ subst (λ (w : ℕ). IsUser w r) e who | inr k ↦ queued_charged v r u sound who k ])
    (put_own r v.user (suc r.system.clock) _ (let h = sound.owns (v.user - 1) in omega (arith, h)) (λ k. let h = sound.owns k in omega (arith, h)))

lt_or_le : (a b : ℕ) → (a < b) ⊎ (b ≤ a)
lt_or_le a b = by_test (nat_lt a b) refl
  where
    by_test : (t : Bool) → nat_lt a b ≡ t → (a < b) ⊎ (b ≤ a)
    by_test true e = inl (grind (arith, nat_tests))
    by_test false e = inr (grind (arith, nat_tests))

pub same_or_not : (a b : ℕ) → (a ≡ b) ⊎ (a ≢ b)
same_or_not a b = by_test (nat_eq a b) refl
  where
    by_test : (t : Bool) → nat_eq a b ≡ t → (a ≡ b) ⊎ (a ≢ b)
    by_test true e = inl (grind (arith, nat_tests))
    by_test false e = inr (λ p. cc (eq-eqb a b p))

all-head : {X : Type 0} (P : X → Type 0) (x : X) (xs : List X) → All P (x ∷ xs) → P x
all-head P x xs h = h zero x (omega arith)

-- at each console

pub sound_off : (c : ℕ) (e : Event) (r : Run) → 0 < c → Sound r → Sound (at_console c Off e r)
sound_off c Dials r h sound = subst Sound (sym (off_dials c r h)) (sound_heard c DialTaken On [] r sound (λ u e. cc))
sound_off c (Types l) r h sound = subst Sound (sym (off_types c l r h)) (sound_heard c LineTaken Off [] r sound (λ u e. cc))
sound_off c Quits r h sound = subst Sound (sym (off_quits c r h)) (sound_heard c QuitTaken Off [] r sound (λ u e. cc))
sound_off c Hangs r h sound = subst Sound (sym (off_hangs c r h)) (sound_heard c HangTaken Off [] r sound (λ u e. cc))

pub sound_on : (c : ℕ) (e : Event) (r : Run) → 0 < c → Sound r → Sound (at_console c On e r)
sound_on c Dials r h sound = subst Sound (sym (on_dials c r h)) (sound_heard c DialTaken On [] r sound (λ u e. cc))
sound_on c Quits r h sound = subst Sound (sym (on_quits c r h)) (sound_heard c QuitTaken On [] r sound (λ u e. cc))
sound_on c Hangs r h sound = subst Sound (sym (on_hangs c r h)) (sound_heard c HangTaken Off [] r sound (λ u e. cc))
sound_on c (Types l) r h sound = by_name (asked l) refl
  where
    by_name : (o : Option ℕ) → asked l ≡ o → Sound (at_console c On (Types l) r)
    by_name None e = subst Sound (sym (on_no_name c l r h e)) (sound_heard c LineTaken On _ r sound (λ u e. cc))
    by_name (Some name) e = subst Sound (sym (on_name c l name r h e)) (sound_heard c LineTaken (Password name) [] r sound (λ u e. cc))

account_user : (k : ℕ) (accounts : List Account) (name password u : ℕ) → account_in k accounts name password ≡ Some u → (k ≤ u) × (u < k + length accounts)
account_user k [] name password u h = cc
account_user k (a ∷ accounts) name password u h = by_test (nat_eq a.name name && nat_eq a.password password) (account_user (suc k) accounts name password u) h
  where
    by_test : (b : Bool) → (account_in (suc k) accounts name password ≡ Some u → (suc k ≤ u) × (u < suc k + length accounts)) → cond b (Some k) (account_in (suc k) accounts name password) ≡ Some u → (k ≤ u) × (u < k + length (a ∷ accounts))
    by_test true rest h = let e : k ≡ u = cc in (omega (arith, e), omega (arith, e))
    by_test false rest h = let p = rest h in let a = p.0 in let b = p.1 in (omega (arith, a), omega (arith, b))

-- the user of a name and a line
checked_user : (accounts : List Account) (name : ℕ) (word : Line) (u : ℕ) → check accounts name word ≡ Some u → (1 ≤ u) × (u < 1 + length accounts)
unfolding check
checked_user accounts name word u h = by_password (password_by (words_of word)) h
  where
    by_password : (o : Option ℕ) → account_with accounts name o ≡ Some u → (1 ≤ u) × (u < 1 + length accounts)
    by_password None h = cc
    by_password (Some password) h = account_user 1 accounts name password u h

pub checked_is_user : (name : ℕ) (word : Line) (u : ℕ) (r : Run) → Sound r → check r.accounts name word ≡ Some u → IsUser u r
checked_is_user name word u r sound e =
    let p = checked_user r.accounts name word u e in
    let a = p.0 in let b = p.1 in let d = sound.accounts in
    record { some = omega (arith, a); within = omega (arith, b, d) }

pub sound_asked : (c : ℕ) (name : ℕ) (e : Event) (r : Run) → 0 < c → Sound r → Sound (at_console c (Password name) e r)
sound_asked c name Dials r h sound = subst Sound (sym (asked_dials c name r h)) (sound_heard c DialTaken (Password name) [] r sound (λ u e. cc))
sound_asked c name Quits r h sound = subst Sound (sym (asked_quits c name r h)) (sound_heard c QuitTaken On [] r sound (λ u e. cc))
sound_asked c name Hangs r h sound = subst Sound (sym (asked_hangs c name r h)) (sound_heard c HangTaken Off [] r sound (λ u e. cc))
sound_asked c name (Types word) r h sound = by_user (check r.accounts name word) refl
  where
    by_on : (u : ℕ) → check r.accounts name word ≡ Some u → IsUser u r → (b : Bool) → (user_at u r.system.users).on ≡ b → Sound (at_console c (Password name) (Types word) r)
    by_on u e who true on = subst Sound (sym (already_on c u name word r h who.some e on)) (sound_heard c LineTaken On _ r sound (λ u e. cc))
    by_on u e who false off = subst Sound (sym (logs_in c u name word r h who.some e off)) (sound_login c u r sound who)

    by_user : (o : Option ℕ) → check r.accounts name word ≡ o → Sound (at_console c (Password name) (Types word) r)
    by_user None e = subst Sound (sym (wrong_word c name word r h e)) (sound_heard c LineTaken On _ r sound (λ u e. cc))
    by_user (Some u) e =
        let p = checked_user r.accounts name word u e in
        let a = p.0 in let b = p.1 in let d = sound.accounts in
        by_on u e (record { some = omega (arith, a); within = omega (arith, b, d) }) (user_at u r.system.users).on refl

pub sound_in : (c u : ℕ) (e : Event) (r : Run) → 0 < c → IsUser u r → Sound r → Sound (at_console c (Session u) e r)
sound_in c u Dials r h who sound = subst Sound (sym (in_dials c u r who.some)) (sound_dial c u r sound)
sound_in c u Quits r h who sound = subst Sound (sym (in_quits c u r who.some)) (sound_quit c u r sound)
sound_in c u Hangs r h who sound = subst Sound (sym (in_hangs c u r who.some h)) (sound_hang c u r sound)
sound_in c u (Types l) r h who sound = elim (lt_or_le (user_at u r.system.users).lines max_lines) [ inl few ↦ subst Sound (sym (in_types c u l r who.some few)) (sound_line c u l r sound who) | inr many ↦ subst Sound (sym (in_spends c u l r who.some many)) (sound_spent c u r sound) ]

sound_at : (c : ℕ) (now : Console) (e : Event) (r : Run) → 0 < c → ((u : ℕ) → now ≡ Session u → IsUser u r) → Sound r → Sound (at_console c now e r)
sound_at c Off e r h who sound = sound_off c e r h sound
sound_at c On e r h who sound = sound_on c e r h sound
sound_at c (Password name) e r h who sound = sound_asked c name e r h sound
sound_at c (Session u) e r h who sound = sound_in c u e r h (who u refl) sound

pub sound_taken : (e : Timed) (r : Run) → HasSeat e r → Sound r → Sound (taken e r)
sound_taken e r seat sound = subst Sound (sym (taken_at e r seat.some)) (sound_at e.console (get_or r.system.consoles (e.console - 1) Off) e.event r seat.some (sound.sits (e.console - 1)) sound)

pub sound_brought : (u : ℕ) (r : Run) → Sound r → Sound (brought u r)
unfolding brought
sound_brought u r sound =
    sound_by r (brought u r) (record { users = refl; accounts = refl; consoles = refl }) sound sound.seats
    sound.sits (λ v h. let k = sound.ran v h in (sound.served v h, omega (arith, k))) sound.queued
    (λ k. let h = sound.owns k in omega (arith, h))

pub sound_attended : (v : Service) (r : Run) → Sound r → IsUser v.user r → v.ran ≤ r.system.clock → Sound (attended v r)
sound_attended v r sound who ran = by_load (must_load r.system.plan v.user (blocks_of (user_at v.user r.system.users).inner)) refl
  where
    by_step : (b : Bool) → must_load r.system.plan v.user (blocks_of (user_at v.user r.system.users).inner) ≡ false → can_step (user_at v.user r.system.users) ≡ b → Sound (attended v r)
    by_step true m e = subst Sound (sym (attended_steps v r who.some m e)) (sound_stepped v r sound who ran)
    by_step false m e = subst Sound (sym (attended_waits v r who.some m e)) (sound_waited v r sound who)

    by_load : (b : Bool) → must_load r.system.plan v.user (blocks_of (user_at v.user r.system.users).inner) ≡ b → Sound (attended v r)
    by_load true m = subst Sound (sym (attended_loads v r who.some m)) (sound_brought v.user r sound)
    by_load false m = by_step (can_step (user_at v.user r.system.users)) m refl

-- the user that rises
that_holds : (p : Waiting → Bool) (row : List Waiting) (x : Waiting) → first_that p row ≡ Some x → list_any (is_user x.user) row ≡ true
that_holds p [] x h = cc
that_holds p (y ∷ row) x h = by_test (that_holds p row x) (p y) h
  where
    by_test : (first_that p row ≡ Some x → list_any (is_user x.user) row ≡ true) → (b : Bool) → cond b (Some y) (first_that p row) ≡ Some x → list_any (is_user x.user) (y ∷ row) ≡ true
    by_test rest true h =
        let e : y ≡ x = cc in
        let t : nat_eq y.user x.user ≡ true = (let s : y.user ≡ x.user = ap (λ (z : Waiting). z.user) e in grind (arith, nat_tests)) in
        or-left (nat_eq y.user x.user) (list_any (is_user x.user) row) t
    by_test rest false h = or-right (nat_eq y.user x.user) (list_any (is_user x.user) row) (rest h)

with_holds : (p : Waiting → Bool) (l : ℕ) (rows : List (List Waiting)) (k : ℕ) (x : Waiting) → first_with p l rows ≡ Some (k, x) → is_in x.user rows ≡ true
with_holds p l [] k x h = cc
with_holds p l (row ∷ rows) k x h = by_first (with_holds p (suc l) rows k x) (first_that p row) refl h
  where
    by_first : (first_with p (suc l) rows ≡ Some (k, x) → is_in x.user rows ≡ true) → (o : Option Waiting) → first_that p row ≡ o → at_or l o (first_with p (suc l) rows) ≡ Some (k, x) → is_in x.user (row ∷ rows) ≡ true
    by_first rest None is h = or-right (list_any (is_user x.user) row) (is_in x.user rows) (rest h)
    by_first rest (Some y) is h = let both : ◌≡◌ {A = ℕ × Waiting} (l, y) (k, x) = cc in let e : y ≡ x = ap (λ (q : ℕ × Waiting). q.1) both in or-left (list_any (is_user x.user) row) (is_in x.user rows) (that_holds p row x (is ∙ ap (λ (z : Waiting). Some z) e))

behind_holds : (p : Waiting → Bool) (rows : List (List Waiting)) (k : ℕ) (x : Waiting) → first_with p 1 (drop 1 rows) ≡ Some (k, x) → is_in x.user rows ≡ true
behind_holds p [] k x h = cc
behind_holds p (row ∷ rows) k x h = or-right (list_any (is_user x.user) row) (is_in x.user rows) (with_holds p 1 rows k x h)

riser_waits : (served : Option ℕ) (now : ℕ) (q : Levels) (k : ℕ) (x : Waiting) → riser served now q ≡ Some (k, x) → waits x.user q ≡ true
unfolding riser waits
riser_waits served now q k x h = by_age (nat_eq q.age 0) h
  where
    by_age : (b : Bool) → cond b None (first_with (has_waited q.age served now) 1 (drop 1 q.rows)) ≡ Some (k, x) → is_in x.user q.rows ≡ true
    by_age true h = cc
    by_age false h = behind_holds (has_waited q.age served now) q.rows k x h

pub riser_user : (r : Run) (u l : ℕ) → Sound r → rising r ≡ Some (u, l) → IsUser u r
riser_user r u l sound h = by_who (riser (theory.served_of r.system.service) r.system.clock r.system.plan.levels) refl h
  where
    by_who : (o : Option (ℕ × Waiting)) → riser (theory.served_of r.system.service) r.system.clock r.system.plan.levels ≡ o → goes_up o ≡ Some (u, l) → IsUser u r
    by_who None is h = cc
    by_who (Some x) is h =
        let both : ◌≡◌ {A = ℕ × ℕ} ((x.1).user, x.0 - 1) (u, l) = cc in
        let p : (x.1).user ≡ u = ap (λ (q : ℕ × ℕ). q.0) both in
        subst (λ (w : ℕ). IsUser w r) p (sound.queued (x.1).user (riser_waits (theory.served_of r.system.service) r.system.clock r.system.plan.levels x.0 x.1 is))

-- the user that comes first
pub first_chosen : (r : Run) (u : ℕ) → Sound r → user_of (chosen r.system.plan.levels) ≡ Some u → IsUser u r
first_chosen r u sound h = by_first (chosen r.system.plan.levels) refl h
  where
    by_first : (o : Option (ℕ × Waiting)) → chosen r.system.plan.levels ≡ o → user_of o ≡ Some u → IsUser u r
    by_first None e h = cc
    by_first (Some x) e h = let p : (x.1).user ≡ u = cc in subst (λ (w : ℕ). IsUser w r) p (first_user r x.0 x.1 sound e)

pub sound_otherwise : (limit : ℕ) (r : Run) → r.system.clock ≤ next_tick limit r.system.events → Sound r → Sound (otherwise limit (user_of (chosen r.system.plan.levels)) r.system.service r)
sound_otherwise limit r on sound = by_both (user_of (chosen r.system.plan.levels)) r.system.service refl refl
  where
    by_both : (o : Option ℕ) (v : Option Service) → user_of (chosen r.system.plan.levels) ≡ o → r.system.service ≡ v → Sound (otherwise limit o v r)
    by_both None None a b = subst Sound (sym (idles limit r)) (sound_idled limit r sound on)
    by_both None (Some v) a b = subst Sound (sym (preempts_none limit v r)) (sound_broken_off v r sound)
    by_both (Some u) None a b = subst Sound (sym (begins limit u r)) (sound_attended (record { tick = r.system.clock; user = u; level = level_in (chosen r.system.plan.levels); ran = 0 }) r sound (first_chosen r u sound a) (omega arith))
    by_both (Some u) (Some v) a b = elim (same_or_not v.user u) [ inl e ↦ subst Sound (sym (goes_on limit u v r e)) (sound_attended v r sound (sound.served v b) (sound.ran v b)) | inr n ↦ subst Sound (sym (preempts limit u v r n)) (sound_broken_off v r sound) ]

pub sound_quiet : (limit : ℕ) (r : Run) → r.system.clock ≤ next_tick limit r.system.events → Sound r → Sound (by_due limit None r)
sound_quiet limit r on sound = by_who (rising r) refl
  where
    by_who : (o : Option (ℕ × ℕ)) → rising r ≡ o → Sound (by_rising limit o r)
    by_who None is = sound_otherwise limit r on sound
    by_who (Some x) is = sound_rise x.0 x.1 r sound (riser_user r x.0 x.1 sound is)

pub sound_next : (limit : ℕ) (r : Run) → r.system.clock < limit → Sound r → Sound (next limit r)
sound_next limit r up sound = subst Sound (sym (next_due limit r)) (by_events r.system.events refl)
  where
    by_test : (e : Timed) (rest : List Timed) → r.system.events ≡ e ∷ rest → (b : Bool) → nat_le e.tick r.system.clock ≡ b → Sound (by_due limit (cond b (Some e) None) r)
    by_test e rest is true early =
        let all : All (λ (x : Timed). HasSeat x r) (e ∷ rest) = subst (All (λ (x : Timed). HasSeat x r)) is sound.seats in
        sound_taken e r (all-head (λ (x : Timed). HasSeat x r) e rest all) sound
    by_test e rest is false late =
        let k : r.system.clock ≤ min e.tick limit = (let l : r.system.clock < e.tick = grind (arith, nat_tests) in omega (arith, l, up)) in
        sound_quiet limit r (subst (λ (es : List Timed). r.system.clock ≤ next_tick limit es) (sym is) k) sound

    by_events : (es : List Timed) → r.system.events ≡ es → Sound (by_due limit (due_of es r.system.clock) r)
    by_events [] is = sound_quiet limit r (subst (λ (es : List Timed). r.system.clock ≤ next_tick limit es) (sym is) (omega (arith, up))) sound
    by_events (e ∷ rest) is = by_test e rest is (nat_le e.tick r.system.clock) refl

pub sound_given : (e : Timed) (r : Run) → HasSeat e r → Sound r → Sound (with_one_event e r)
unfolding with_one_event
sound_given e r seat sound =
    sound_by r (with_one_event e r) (record { users = refl; accounts = refl; consoles = refl }) sound (All-push (λ (x : Timed). HasSeat x r) r.system.events e sound.seats seat)
    sound.sits (still r sound) sound.queued sound.owns
