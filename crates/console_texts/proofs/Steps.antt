-- What each step of a run adds to transcripts and schedule, and what it leaves of the consoles.
use Rattle.std.proofs.Common.{◌≡◌, ℕ, zero, suc, ◌-◌, ◌<◌, Bool, true, false, cond, nat_eq, nat_le, Option, Some, None, List, [], ◌∷◌, ◌++◌, All, length, get_or, set, append_assoc, codes, refl, sym, ◌∙◌, ap, subst, arith, inl, inr, eq-eqb}
use Rattle.std.specs.List.{slice_get}
use Rattle.std.specs.Option.{is_some}
use Rattle.std.proofs.lemmas.Option.{slice_get-get_or}
use Rattle.std.proofs.lemmas.List.{append-nil, map-set, length-map, get_or-set_same, get_or-set_other}
use Rattle.std.proofs.Math.ListN.{get_or-map}
use Rattle.time_sharing.specs.Machine.{Line, Item, CutKind, Quit, Hang, Spent, End, Ending, Went, Stopped, Resized, Replaced, LoggedOut, CommonOp, Reply}
use Rattle.time_sharing.specs.System.{Timed, Service, Console, Off, On, Password, Session, Entry, Taken, Login, Refused, Serve, Common, EventKind, LineTaken, Cause, Stop, kind_of, cause_of, service_after, service_entry, clock_entry, common_entry, consoles_after, without, out_of, at}
use Rattle.time_sharing.specs.Texts.{refusals}
use Rattle.user_model.specs.User.{User, typed, opened, cut, can_step, step, ending, asks_clock, asks_common}
use Rattle.user_model.specs.Session.{nobody}
use Rattle.user_model.specs.Inner.{blocks_of}
use Rattle.plan_model.specs.Levels.{chosen, user_of, level_in, has_time}
use Rattle.plan_model.specs.Plan.{must_load}
use Rattle.system_model.specs.Run.{Run, next, taken, otherwise, attended, rise, rising, by_rising, by_due, due_of}
use Rattle.system_model.specs.Cases.{reply_for, user_at, with_user, idle_notes, stop_notes, heard, line_taken, quit_taken, hang_taken, spent_taken, cut_taken, login_taken, dial_taken, idled, broken_off, brought, stepped, waited}
use Rattle.system_model.specs.Sound.{Sound, IsUser, HasSeat}
use Rattle.system_model.proofs.EventLaws.{by_event}
use Rattle.system_model.proofs.SoundLaws.{same_or_not, first_chosen}
use Rattle.system_model.proofs.CaseLaws.{next_due, attended_loads, attended_steps, attended_waits, idles, preempts_none, begins, goes_on as serves_on, preempts}
use Rattle.console_texts.specs.Parts.{Transcripts, Extends, refusal_lines}
use Rattle.console_texts.specs.Following.{goes_on}
use Rattle.console_texts.specs.Watching.{transcripts_of, refused_by, refusal_in}

-- what any step does: transcripts and schedule get more at their ends
pub record Grows (r s : Run) : Type 0 where
  pub grown : Extends (transcripts_of r.system.users) (transcripts_of s.system.users)
  pub more : List Entry
  pub entries : s.system.entries ≡ r.system.entries ++ more

-- an event: a login that was refused is the last entry
pub record Tells (r s : Run) : Type 0 where
  pub grows : Grows r s
  pub refused : (c : ℕ) → 0 < c → refusals c grows.more ≡ refusal_lines (nat_eq (refused_by s.system.entries) c)

-- any other step: no login is refused and no session begins; without an entry, and where a service is open behind it, the consoles stay
pub record Rests (r s : Run) : Type 0 where
  pub grows : Grows r s
  pub none : (c : ℕ) → refusals c grows.more ≡ []
  pub still : grows.more ≡ [] → s.system.consoles ≡ r.system.consoles
  pub served : is_some s.system.service ≡ true → s.system.consoles ≡ r.system.consoles
  pub leaves : (c : ℕ) → goes_on (at Off r.system.consoles c) (at Off s.system.consoles c) false ≡ true

-- transcripts

extends_same : (ts : Transcripts) → Extends ts ts
extends_same ts = λ u. ([], sym (append-nil (at [] ts u)))

extends_at : (ts : Transcripts) (k : ℕ) (x more : List Item) → k < length ts → x ≡ get_or ts k [] ++ more → Extends ts (set ts k x)
extends_at ts k x more within is zero = ([], refl)
extends_at ts k x more within is (suc n) = by_test (nat_eq n k) refl
  where
    by_test : (b : Bool) → nat_eq n k ≡ b → (xs : List Item) × (get_or (set ts k x) n [] ≡ get_or ts n [] ++ xs)
    by_test true e =
        let same : n ≡ k = grind (arith, e) in
        (more, ap (λ (i : ℕ). get_or (set ts k x) i []) same ∙ get_or-set_same ts k x [] within ∙ is ∙ ap (λ (i : ℕ). get_or ts i [] ++ more) (sym same))
    by_test false e = ([], get_or-set_other ts k n x [] (λ h. grind (arith, e, h)) ∙ sym (append-nil (get_or ts n [])))

extends_user : (r : Run) (u : ℕ) (p : User) (more : List Item) → IsUser u r → p.transcript ≡ (user_at u r.system.users).transcript ++ more
    → Extends (transcripts_of r.system.users) (transcripts_of (with_user u p r.system.users))
extends_user r u p more who is =
    let n = length-map r.system.users (λ (q : User). q.transcript) in
    let some = who.some in
    let within = who.within in
    subst (Extends (transcripts_of r.system.users)) (sym (map-set (λ (q : User). q.transcript) r.system.users (u - 1) p))
    (extends_at (transcripts_of r.system.users) (u - 1) p.transcript more (omega (arith, n, some, within)) (is ∙ ap (λ (is : List Item). is ++ more) (sym (get_or-map (λ (q : User). q.transcript) r.system.users (u - 1) nobody))))

-- entries

pub refusals-append : (c : ℕ) (xs ys : List Entry) → refusals c (xs ++ ys) ≡ refusals c xs ++ refusals c ys
refusals-append c [] ys = refl
refusals-append c (Refused tick console cause ∷ xs) ys = by_test (refusals-append c xs ys) (nat_eq console c)
  where
    by_test : refusals c (xs ++ ys) ≡ refusals c xs ++ refusals c ys → (b : Bool) → cond b (codes "LOGIN REFUSED" ∷ refusals c (xs ++ ys)) (refusals c (xs ++ ys)) ≡ cond b (codes "LOGIN REFUSED" ∷ refusals c xs) (refusals c xs) ++ refusals c ys
    by_test more true = ap (λ (ls : List Line). codes "LOGIN REFUSED" ∷ ls) more
    by_test more false = more
refusals-append c (Taken tick console kind user own ∷ xs) ys = refusals-append c xs ys
refusals-append c (Common user op reply ∷ xs) ys = refusals-append c xs ys
refusals-append c (_ ∷ xs) ys = refusals-append c xs ys

pub refused-append : (xs : List Entry) (y : Entry) (ys : List Entry) → refused_by (xs ++ y ∷ ys) ≡ refused_by (y ∷ ys)
refused-append [] y ys = refl
refused-append (Refused tick console cause ∷ []) y ys = refl
refused-append (Refused tick console cause ∷ x ∷ xs) y ys = refused-append (x ∷ xs) y ys
refused-append (Common user op reply ∷ xs) y ys = refused-append xs y ys
refused-append (_ ∷ xs) y ys = refused-append xs y ys

-- it is that of the last entry
pub refused_last : (es : List Entry) → refusal_in (slice_get es (length es - 1)) ≡ refused_by es
refused_last [] = refl
refused_last (Refused tick console cause ∷ []) = refl
refused_last (Common user op reply ∷ []) = refl
refused_last (x ∷ y ∷ es) =
    let n : length (x ∷ y ∷ es) - 1 ≡ suc (length (y ∷ es) - 1) = omega arith in
    ap (λ (k : ℕ). refusal_in (slice_get (x ∷ y ∷ es) k)) n ∙ refused_last (y ∷ es) ∙ sym (refused-append (x ∷ []) y es)
refused_last (_ ∷ []) = refl

pub refused_at_end : (es : List Entry) (x : Entry) → 0 < length es → x ≡ get_or es (length es - 1) x → refusal_in (Some x) ≡ refused_by es
refused_at_end es x some is = ap (λ (e : Entry). refusal_in (Some e)) is ∙ ap refusal_in (sym (slice_get-get_or es (length es - 1) x (omega (arith, some)))) ∙ refused_last es

pub refused_none : (es : List Entry) → length es ≡ 0 → refused_by es ≡ 0
refused_none [] e = refl
refused_none (x ∷ es) e = absurd (omega (arith, e))

no_refusal : (c : ℕ) → 0 < c → [] ≡ refusal_lines (nat_eq 0 c)
no_refusal c h = by_test (nat_eq 0 c) refl
  where
    by_test : (b : Bool) → nat_eq 0 c ≡ b → [] ≡ refusal_lines b
    by_test true e = absurd (grind (arith, e, h))
    by_test false e = refl

one_refusal : (c console : ℕ) → cond (nat_eq console c) (codes "LOGIN REFUSED" ∷ []) [] ≡ refusal_lines (nat_eq console c)
one_refusal c console = by_test (nat_eq console c)
  where
    by_test : (b : Bool) → cond b (codes "LOGIN REFUSED" ∷ []) [] ≡ refusal_lines b
    by_test true = refl
    by_test false = refl

idle_refusals : (c : ℕ) (i : Option ℕ) (now : ℕ) → refusals c (idle_notes i now) ≡ []
idle_refusals c None now = refl
idle_refusals c (Some from) now = refl

stop_refusals : (c : ℕ) (v : Option Service) (u : ℕ) → refusals c (stop_notes v u) ≡ []
stop_refusals c None u = refl
stop_refusals c (Some v) u = by_test (nat_eq v.user u)
  where
    by_test : (b : Bool) → refusals c (cond b (Serve v.tick v.user v.level v.ran Stop ∷ []) []) ≡ []
    by_test true = refl
    by_test false = refl

-- events

tells_by : (r s : Run) → Extends (transcripts_of r.system.users) (transcripts_of s.system.users) → (notes : List Entry) (t : Entry) (more : List Entry)
    → s.system.entries ≡ r.system.entries ++ (notes ++ t ∷ more) → ((c : ℕ) → refusals c notes ≡ [])
    → ((c : ℕ) → 0 < c → refusals c (t ∷ more) ≡ refusal_lines (nat_eq (refused_by (t ∷ more)) c)) → Tells r s
tells_by r s grown notes t more entries quiet says =
    record {
      grows = record { grown = grown; more = notes ++ t ∷ more; entries = entries };
      refused = λ c h.
          refusals-append c notes (t ∷ more) ∙ ap (λ (ls : List Line). ls ++ refusals c (t ∷ more)) (quiet c) ∙ says c h
          ∙ ap (λ (k : ℕ). refusal_lines (nat_eq k c)) (sym (ap refused_by (entries ∙ sym (append_assoc r.system.entries notes (t ∷ more))) ∙ refused-append (r.system.entries ++ notes) t more));
    }

heard_tells : (c : ℕ) (kind : EventKind) (now : Console) (r : Run) → Tells r (heard c kind now [] r)
unfolding heard
heard_tells c kind now r =
    tells_by r (heard c kind now [] r) (extends_same (transcripts_of r.system.users)) (idle_notes r.system.idling r.system.clock) (Taken r.system.clock c kind 0 0) [] refl
    (λ k. idle_refusals k r.system.idling r.system.clock) (λ k h. no_refusal k h)

refused_tells : (c cause : ℕ) (r : Run) → Tells r (heard c LineTaken On (Refused r.system.clock c cause ∷ []) r)
unfolding heard
refused_tells c cause r =
    tells_by r (heard c LineTaken On (Refused r.system.clock c cause ∷ []) r) (extends_same (transcripts_of r.system.users)) (idle_notes r.system.idling r.system.clock) (Taken r.system.clock c LineTaken 0 0)
    (Refused r.system.clock c cause ∷ []) refl (λ k. idle_refusals k r.system.idling r.system.clock) (λ k h. one_refusal k c)

cut_more : (kind : CutKind) (p : User) → (more : List Item) × ((cut kind p).transcript ≡ p.transcript ++ more)
unfolding cut
cut_more Quit p = (_, refl)
cut_more Hang p = (_, refl)
cut_more Spent p = (_, refl)
cut_more End p = ([], sym (append-nil p.transcript))

cut_tells : (kind : CutKind) (c u : ℕ) (consoles : List Console) (r : Run) → IsUser u r → Tells r (cut_taken kind c u consoles r)
cut_tells kind c u consoles r who =
    let m = cut_more kind (user_at u r.system.users) in
    tells_by r (cut_taken kind c u consoles r) (extends_user r u (cut kind (user_at u r.system.users)) m.0 who m.1)
    (idle_notes r.system.idling r.system.clock ++ stop_notes r.system.service u) (Taken r.system.clock c (kind_of kind) u (user_at u r.system.users).own) []
    (ap (λ (es : List Entry). r.system.entries ++ es) (sym (append_assoc (idle_notes r.system.idling r.system.clock) (stop_notes r.system.service u) (Taken r.system.clock c (kind_of kind) u (user_at u r.system.users).own ∷ []))))
    (λ k. refusals-append k (idle_notes r.system.idling r.system.clock) (stop_notes r.system.service u) ∙ ap (λ (ls : List Line). ls ++ refusals k (stop_notes r.system.service u)) (idle_refusals k r.system.idling r.system.clock) ∙ stop_refusals k r.system.service u)
    (λ k h. no_refusal k h)

typed_tells : (c u : ℕ) (l : Line) (r : Run) → IsUser u r → Tells r (line_taken c u l r)
unfolding line_taken typed
typed_tells c u l r who =
    tells_by r (line_taken c u l r) (extends_user r u (typed l (user_at u r.system.users)) [] who (sym (append-nil (user_at u r.system.users).transcript)))
    (idle_notes r.system.idling r.system.clock) (Taken r.system.clock c LineTaken u (user_at u r.system.users).own) [] refl
    (λ k. idle_refusals k r.system.idling r.system.clock) (λ k h. no_refusal k h)

dial_tells : (c u : ℕ) (r : Run) → Tells r (dial_taken c u r)
unfolding dial_taken
dial_tells c u r =
    tells_by r (dial_taken c u r) (extends_same (transcripts_of r.system.users)) (idle_notes r.system.idling r.system.clock) _ [] refl
    (λ k. idle_refusals k r.system.idling r.system.clock) (λ k h. no_refusal k h)

login_tells : (c u : ℕ) (r : Run) → IsUser u r → Tells r (login_taken c u r)
unfolding login_taken opened
login_tells c u r who =
    tells_by r (login_taken c u r) (extends_user r u (opened (user_at u r.system.users)) _ who refl)
    (idle_notes r.system.idling r.system.clock) (Taken r.system.clock c LineTaken 0 0) (Login r.system.clock c u ∷ []) refl
    (λ k. idle_refusals k r.system.idling r.system.clock) (λ k h. no_refusal k h)

pub taken_tells : (e : Timed) (r : Run) → HasSeat e r → Sound r → Tells r (taken e r)
unfolding quit_taken hang_taken spent_taken
taken_tells e r seat sound =
    by_event (λ k s. Tells r s) e r seat sound (record {
      hears = λ kind now. heard_tells e.console kind now r;
      refuses = λ cause. refused_tells e.console cause r;
      types = λ u l who. typed_tells e.console u l r who;
      quits = λ u who. cut_tells Quit e.console u _ r who;
      dials = λ u who. dial_tells e.console u r;
      opens = λ u who. login_tells e.console u r who;
      hangs = λ u who. cut_tells Hang e.console u _ r who;
      spends = λ u who. cut_tells Spent e.console u _ r who;
    })

-- the other steps

still_goes_on : (k : Console) → goes_on k k false ≡ true
still_goes_on Off = refl
still_goes_on On = refl
still_goes_on (Password name) = refl
still_goes_on (Session zero) = refl
still_goes_on (Session (suc n)) = shows_on (suc n) (nat_eq (suc n) 0)
  where
    shows_on : (u : ℕ) (b : Bool) → nat_eq (cond b u u) u ≡ true
    shows_on u true = eq-eqb u u refl
    shows_on u false = eq-eqb u u refl

out_goes_on : (u : ℕ) (k : Console) → goes_on k (out_of u k) false ≡ true
out_goes_on u Off = refl
out_goes_on u On = refl
out_goes_on u (Password name) = refl
out_goes_on u (Session v) = by_test (nat_eq v u) (still_goes_on (Session v))
  where
    by_test : (b : Bool) → goes_on (Session v) (Session v) false ≡ true → goes_on (Session v) (cond b On (Session v)) false ≡ true
    by_test true h = eq-eqb v v refl
    by_test false h = h

without_at : (u c : ℕ) (cs : List Console) → at Off (without u cs) c ≡ out_of u (at Off cs c)
without_at u zero cs = refl
without_at u (suc n) cs = get_or-map (out_of u) cs n Off

rests_same : (r s : Run) (more : List Entry) → Extends (transcripts_of r.system.users) (transcripts_of s.system.users) → s.system.entries ≡ r.system.entries ++ more → ((c : ℕ) → refusals c more ≡ [])
    → s.system.consoles ≡ r.system.consoles → Rests r s
rests_same r s more grown entries none same =
    record {
      grows = record { grown = grown; more = more; entries = entries };
      none = none;
      still = λ h. same;
      served = λ h. same;
      leaves = λ c. subst (λ (cs : List Console). goes_on (at Off r.system.consoles c) (at Off cs c) false ≡ true) (sym same) (still_goes_on (at Off r.system.consoles c));
    }

idled_rests : (limit : ℕ) (r : Run) → Rests r (idled limit r)
unfolding idled
idled_rests limit r = rests_same r (idled limit r) [] (extends_same (transcripts_of r.system.users)) (sym (append-nil r.system.entries)) (λ c. refl) refl

broken_off_rests : (v : Service) (r : Run) → Rests r (broken_off v r)
unfolding broken_off
broken_off_rests v r = rests_same r (broken_off v r) _ (extends_same (transcripts_of r.system.users)) refl (λ c. refl) refl

rise_rests : (u l : ℕ) (r : Run) → Rests r (rise u l r)
unfolding rise
rise_rests u l r = rests_same r (rise u l r) _ (extends_same (transcripts_of r.system.users)) refl (λ c. refl) refl

brought_rests : (u : ℕ) (r : Run) → Rests r (brought u r)
unfolding brought
brought_rests u r = rests_same r (brought u r) _ (extends_same (transcripts_of r.system.users)) refl (λ c. refl) refl

waited_rests : (v : Service) (r : Run) → Rests r (waited v r)
unfolding waited
waited_rests v r = rests_same r (waited v r) _ (extends_same (transcripts_of r.system.users)) refl (λ c. refl) refl

step_more : (t : ℕ) (reply : Reply) (p : User) → (more : List Item) × ((step t reply p).transcript ≡ p.transcript ++ more)
unfolding step
step_more t reply p = (_, refl)

stepped_none : (asked : Bool) (t u : ℕ) (made : Option CommonOp) (reply : Reply) (v : Service) (cause : Option Cause) (c : ℕ) → refusals c (clock_entry asked t u ++ (common_entry made u reply ++ service_entry v cause)) ≡ []
stepped_none true t u None reply v None c = refl
stepped_none true t u None reply v (Some cause) c = refl
stepped_none false t u None reply v None c = refl
stepped_none false t u None reply v (Some cause) c = refl
stepped_none true t u (Some op) reply v None c = refl
stepped_none true t u (Some op) reply v (Some cause) c = refl
stepped_none false t u (Some op) reply v None c = refl
stepped_none false t u (Some op) reply v (Some cause) c = refl

-- where no entry is written, the service goes on
stepped_still : (asked : Bool) (t u : ℕ) (made : Option CommonOp) (reply : Reply) (v : Service) (e : Ending) (left : Bool) (cs : List Console) → clock_entry asked t u ++ (common_entry made u reply ++ service_entry v (cause_of e left)) ≡ [] → consoles_after e u cs ≡ cs
stepped_still asked t u made reply v Went left cs h = refl
stepped_still asked t u made reply v Stopped left cs h = refl
stepped_still asked t u made reply v Resized left cs h = refl
stepped_still asked t u made reply v Replaced left cs h = refl
stepped_still true t u made reply v LoggedOut left cs h = cc h
stepped_still false t u None reply v LoggedOut left cs h = cc h
stepped_still false t u (Some op) reply v LoggedOut left cs h = cc h

-- where a service is open after the step, the session goes on
stepped_served : (u : ℕ) (v : Service) (e : Ending) (left : Bool) (cs : List Console) → is_some (service_after v (cause_of e left)) ≡ true → consoles_after e u cs ≡ cs
stepped_served u v Went left cs h = refl
stepped_served u v Stopped left cs h = refl
stepped_served u v Resized left cs h = refl
stepped_served u v Replaced left cs h = refl
stepped_served u v LoggedOut left cs h = cc h

stepped_leaves : (e : Ending) (u c : ℕ) (cs : List Console) → goes_on (at Off cs c) (at Off (consoles_after e u cs) c) false ≡ true
stepped_leaves Went u c cs = still_goes_on (at Off cs c)
stepped_leaves Stopped u c cs = still_goes_on (at Off cs c)
stepped_leaves Resized u c cs = still_goes_on (at Off cs c)
stepped_leaves Replaced u c cs = still_goes_on (at Off cs c)
stepped_leaves LoggedOut u c cs = ap (λ (k : Console). goes_on (at Off cs c) k false) (without_at u c cs) ∙ out_goes_on u (at Off cs c)

stepped_rests : (v : Service) (r : Run) → IsUser v.user r → Rests r (stepped v r)
unfolding stepped
stepped_rests v r who =
    let p : User = user_at v.user r.system.users in
    let made : Option CommonOp = asks_common p in
    let reply : Reply = reply_for r made in
    let m = step_more r.system.clock reply p in
    let left : Bool = has_time r.system.plan.levels in
    let e : Ending = ending r.system.clock reply p in
    record {
      grows = record {
        grown = extends_user r v.user (step r.system.clock reply p) m.0 who m.1;
        more = clock_entry (asks_clock p) r.system.clock v.user ++ (common_entry made v.user reply ++ service_entry v (cause_of e left));
        entries = refl;
      };
      none = λ c. stepped_none (asks_clock p) r.system.clock v.user made reply v (cause_of e left) c;
      still = λ h. stepped_still (asks_clock p) r.system.clock v.user made reply v e left r.system.consoles h;
      served = λ h. stepped_served v.user v e left r.system.consoles h;
      leaves = λ c. stepped_leaves e v.user c r.system.consoles;
    }

attended_rests : (v : Service) (r : Run) → IsUser v.user r → Rests r (attended v r)
attended_rests v r who = by_load (must_load r.system.plan v.user (blocks_of (user_at v.user r.system.users).inner)) refl
  where
    by_step : (b : Bool) → must_load r.system.plan v.user (blocks_of (user_at v.user r.system.users).inner) ≡ false → can_step (user_at v.user r.system.users) ≡ b → Rests r (attended v r)
    by_step true m e = subst (Rests r) (sym (attended_steps v r who.some m e)) (stepped_rests v r who)
    by_step false m e = subst (Rests r) (sym (attended_waits v r who.some m e)) (waited_rests v r)

    by_load : (b : Bool) → must_load r.system.plan v.user (blocks_of (user_at v.user r.system.users).inner) ≡ b → Rests r (attended v r)
    by_load true m = subst (Rests r) (sym (attended_loads v r who.some m)) (brought_rests v.user r)
    by_load false m = by_step (can_step (user_at v.user r.system.users)) m refl

otherwise_rests : (limit : ℕ) (r : Run) → Sound r → Rests r (otherwise limit (user_of (chosen r.system.plan.levels)) r.system.service r)
otherwise_rests limit r sound = by_both (user_of (chosen r.system.plan.levels)) r.system.service refl refl
  where
    by_both : (o : Option ℕ) (v : Option Service) → user_of (chosen r.system.plan.levels) ≡ o → r.system.service ≡ v → Rests r (otherwise limit o v r)
    by_both None None a b = subst (Rests r) (sym (idles limit r)) (idled_rests limit r)
    by_both None (Some v) a b = subst (Rests r) (sym (preempts_none limit v r)) (broken_off_rests v r)
    by_both (Some u) None a b = subst (Rests r) (sym (begins limit u r)) (attended_rests (record { tick = r.system.clock; user = u; level = level_in (chosen r.system.plan.levels); ran = 0 }) r (first_chosen r u sound a))
    by_both (Some u) (Some v) a b = elim (same_or_not v.user u) [ inl e ↦ subst (Rests r) (sym (serves_on limit u v r e)) (attended_rests v r (sound.served v b)) | inr n ↦ subst (Rests r) (sym (preempts limit u v r n)) (broken_off_rests v r) ]

quiet_rests : (limit : ℕ) (r : Run) → Sound r → Rests r (by_due limit None r)
quiet_rests limit r sound = by_who (rising r)
  where
    by_who : (o : Option (ℕ × ℕ)) → Rests r (by_rising limit o r)
    by_who None = otherwise_rests limit r sound
    by_who (Some x) = rise_rests x.0 x.1 r

pub next_rests : (limit : ℕ) (r : Run) → due_of r.system.events r.system.clock ≡ None → Sound r → Rests r (next limit r)
next_rests limit r quiet sound = subst (Rests r) (sym (next_due limit r ∙ ap (λ (o : Option Timed). by_due limit o r) quiet)) (quiet_rests limit r sound)

-- the event that is due has a seat
due_seat : (r : Run) (e : Timed) → due_of r.system.events r.system.clock ≡ Some e → Sound r → HasSeat e r
due_seat r e due sound = by_events r.system.events refl due
  where
    by_test : (x : Timed) (b : Bool) → HasSeat x r → cond b (Some x) None ≡ Some e → HasSeat e r
    by_test x true seat h = let same : x ≡ e = cc in subst (λ (y : Timed). HasSeat y r) same seat
    by_test x false seat h = cc

    by_events : (es : List Timed) → r.system.events ≡ es → due_of es r.system.clock ≡ Some e → HasSeat e r
    by_events [] is h = cc
    by_events (x ∷ rest) is h =
        let all : All (λ (y : Timed). HasSeat y r) (x ∷ rest) = subst (All (λ (y : Timed). HasSeat y r)) is sound.seats in
        by_test x (nat_le x.tick r.system.clock) (all 0 x (omega arith)) h

pub next_tells : (limit : ℕ) (r : Run) (e : Timed) → due_of r.system.events r.system.clock ≡ Some e → Sound r → Tells r (next limit r)
next_tells limit r e due sound = subst (Tells r) (sym (next_due limit r ∙ ap (λ (o : Option Timed). by_due limit o r) due)) (taken_tells e r (due_seat r e due sound) sound)
