-- What a step of the code does, as a step of the definitions over users joined with words and files.
use Rattle.std.proofs.Common.{◌≡◌, ◌≢◌, ℕ, ◌-◌, ◌<◌, ◌≤◌, Bool, true, false, not, nat_eq, List, Option, Some, None, get_or, refl, sym, ◌∙◌, ap, subst, arith, ◌⊎◌, inl, inr}
use Rattle.time_sharing.specs.Machine.{Ending, CommonOp, Reply}
use Rattle.ctss_types.specs.declared.file.FileBody.{FileBody}
use Rattle.std.specs.Option.{is_some}
use Rattle.time_sharing.specs.System.{Timed, Service, Off, common_entry}
use Rattle.user_model.specs.Inner.{Stored, blocks_of}
use Rattle.user_model.specs.User.{User, can_step, step, ending, asks_clock, asks_common, in_store, store_after, IsStep}
use Rattle.plan_model.specs.Levels.{chosen, user_of, level_in}
use Rattle.plan_model.specs.Loads.{is_loaded}
use Rattle.image_map.specs.Images.{size_of}
use Rattle.ctss_types.specs.declared.session.Waiting.{Waiting}
use Rattle.plan_model.specs.Plan.{must_load}
use Rattle.system_model.specs.Run.{Run, next, taken, otherwise, attended, rising, rise_of, raised, by_rising, by_due, due_of, measure}
use Rattle.system_model.specs.Cases.{user_at, brought, waited, idled, broken_off, reply_for, commons_for}
use Rattle.system_model.specs.Joined.{joined, with_store, hung_up, cut_user, stepped_to}
use Rattle.system_model.specs.Sound.{Sound, IsUser, HasSeat}
use Rattle.system_model.proofs.CaseLaws.{next_due, attended_loads, attended_steps, attended_waits, idles, preempts_none, begins, goes_on, preempts}
use Rattle.system_model.proofs.JoinedLaws.{common_stays, taken_joined, waited_joined, brought_joined, stepped_joined, must_same, serves_joined, with_own, with_other, sound_joined, sound_unjoined, measure_joined}
use Rattle.system_model.proofs.RunLaws.{measure_next}
use Rattle.system_model.proofs.SoundLaws.{sound_next}
use Rattle.medium.specs.Medium.{CallList}
use Rattle.user_cores.specs.Backing.{Held}
use Rattle.user_cores.specs.Swaps.{IsCutOff}
use Rattle.supervisor.specs.Counts.{calls_to_load}
use Rattle.supervisor.specs.Steps.{Does, IsTied, LoadFails}

-- a step said in other words
pub does_as : (f g : Run → Run) (old new : Run) (had has : Held) → ((w : ℕ → Stored) → f (joined w old) ≡ g (joined w old)) → Does f old new had has → Does g old new had has
does_as f g old new had has same d = record { before = d.before; after = d.after; is = d.is ∙ same d.before; was = d.was; now = d.now; tells = d.tells; common = d.common }

-- a step that doesn't look at the words, and leaves them
pub does_apart : (f : Run → Run) (old new : Run) (had has : Held) → new ≡ f old → ((w : ℕ → Stored) → f (joined w old) ≡ joined w (f old))
    → (had.tells ≡ true → (u : ℕ) → has.stores u ≡ had.stores u) → has.tells ≡ had.tells → has.common ≡ had.common → Does f old new had has
does_apart f old new had has is apart words tells common =
    record {
      before = had.stores;
      after = had.stores;
      is = ap (joined had.stores) is ∙ sym (apart had.stores);
      was = λ t u. refl;
      now = λ t u. sym (words t u);
      tells = tells;
      common = common;
    }

pub either : (u v : ℕ) → (v ≡ u) ⊎ (v ≢ u)
either u v = by_test (nat_eq v u) refl
  where
    by_test : (b : Bool) → nat_eq v u ≡ b → (v ≡ u) ⊎ (v ≢ u)
    by_test true e = inl (grind (arith, e))
    by_test false e = inr (λ k. grind (arith, e, k))

-- the stores with another for one user, where the others are the same
pub same_but : (k : ℕ) (c : Stored) (f g : ℕ → Stored) → g k ≡ c → ((u : ℕ) → u ≢ k → g u ≡ f u) → (u : ℕ) → with_store k c f u ≡ g u
same_but k c f g mine others u = by_case (either k u)
  where
    by_case : (u ≡ k) ⊎ (u ≢ k) → with_store k c f u ≡ g u
    by_case (inl e) = ap (with_store k c f) e ∙ with_own k c f ∙ sym mine ∙ ap g (sym e)
    by_case (inr n) = with_other k u c f n ∙ sym (others u n)

-- an event
pub does_taken : (e : Timed) (old new : Run) (had has : Held) → HasSeat e old → Sound old → new ≡ taken e old
    → (had.tells ≡ true → (u : ℕ) → has.stores u ≡ hung_up (cut_user (get_or old.system.consoles (e.console - 1) Off) e.event old.system.users) had.stores u)
    → has.tells ≡ had.tells → has.common ≡ had.common → Does (taken e) old new had has
does_taken e old new had has seat sound is stores tells common =
    let left : ℕ → Stored = hung_up (cut_user (get_or old.system.consoles (e.console - 1) Off) e.event old.system.users) had.stores in
    record {
      before = had.stores;
      after = left;
      is = ap (joined left) is ∙ sym (taken_joined had.stores e old seat sound);
      was = λ t u. refl;
      now = λ t u. sym (stores t u);
      tells = tells;
      common = common;
    }

-- a user's blocks are brought in
pub does_brought : (v : Service) (old new : Run) (had has : Held) → IsUser v.user old
    → must_load old.system.plan v.user (blocks_of (user_at v.user old.system.users).inner) ≡ true → new ≡ brought v.user old
    → (had.tells ≡ true → (u : ℕ) → has.stores u ≡ had.stores u) → has.tells ≡ had.tells → has.common ≡ had.common → Does (attended v) old new had has
does_brought v old new had has who must is words tells common =
    does_as (brought v.user) (attended v) old new had has
    (λ w. sym (attended_loads v (joined w old) who.some (must_same w v.user old who ∙ must)))
    (does_apart (brought v.user) old new had has is (λ w. brought_joined w v.user old who) words tells common)

-- a user that can't step waits; this is what it has in core and in its directory
pub does_waited : (v : Service) (old new : Run) (had has : Held) (window : Stored) → IsUser v.user old
    → must_load old.system.plan v.user (blocks_of (user_at v.user old.system.users).inner) ≡ false
    → can_step (in_store window (user_at v.user old.system.users)) ≡ false → new ≡ waited v old
    → (had.tells ≡ true → had.stores v.user ≡ window)
    → (had.tells ≡ true → (u : ℕ) → has.stores u ≡ had.stores u) → has.tells ≡ had.tells → has.common ≡ had.common → Does (attended v) old new had has
does_waited v old new had has window who loaded cannot is was words tells common =
    record {
      before = f;
      after = f;
      is = ap (joined f) is ∙ sym (waited_joined f v old)
          ∙ sym (attended_waits v (joined f old) who.some (must_same f v.user old who ∙ loaded) (ap can_step (serves_joined f v.user old who ∙ ap (λ (c : Stored). in_store c (user_at v.user old.system.users)) (with_own v.user window had.stores)) ∙ cannot));
      was = same;
      now = λ t u. same t u ∙ sym (words t u);
      tells = tells;
      common = common;
    }
  where
    f : ℕ → Stored
    f = with_store v.user window had.stores

    same : had.tells ≡ true → (u : ℕ) → f u ≡ had.stores u
    same t u = same_but v.user window had.stores had.stores (was t) (λ x n. refl) u

-- a run with other common files
abbrev pub with_files : List FileBody → Run → Run
with_files files r = record r { system = record r.system { files = files } }

-- a user's step, with what it has in core and in its directory, and the common files, before and after it
pub does_stepped : (v : Service) (p : User) (t : Ending) (asked : Bool) (made : Option CommonOp) (r : Reply) (old new : Run) (had has : Held) (window after first last : Stored) → IsUser v.user old
    → must_load old.system.plan v.user (blocks_of (user_at v.user old.system.users).inner) ≡ false
    → IsStep t asked made old.system.clock r (user_at v.user old.system.users) p window after
    → r ≡ reply_for (with_files first.files old) made
    → last.files ≡ commons_for (with_files first.files old) made
    → new ≡ stepped_to v p t asked (common_entry made v.user r) old
    → (had.tells ≡ true → had.stores v.user ≡ window)
    → (had.tells ≡ true → had.stores 0 ≡ first)
    → (had.tells ≡ true → has.stores v.user ≡ store_after t (blocks_of p.inner) after)
    → (had.tells ≡ true → has.stores 0 ≡ last)
    → ((u : ℕ) → 1 ≤ u → u ≢ v.user → has.stores u ≡ had.stores u) → has.tells ≡ had.tells → has.common ≡ had.common → Does (attended v) old new had has
unfolding joined
does_stepped v p t asked made r old new had has window after first last who loaded said answer leaves is was was_common mine now_common others tells common =
    record {
      before = f;
      after = with_store v.user left (with_store 0 last f);
      is = ap (joined (with_store v.user left (with_store 0 last f))) (is ∙ ap (λ (q : Reply). stepped_to v p t asked (common_entry made v.user q) old) (answer ∙ replies))
          ∙ sym (stepped_joined f v left last p t asked made old who (says.left ∙ with_words (step old.system.clock reply)) (says.ends ∙ with_words (ending old.system.clock reply)) (says.asks ∙ with_words asks_clock) (says.makes ∙ with_words asks_common) (leaves ∙ files))
          ∙ sym (attended_steps v (joined f old) who.some (must_same f v.user old who ∙ loaded) (ap can_step (serves_joined f v.user old who) ∙ sym (with_words can_step) ∙ says.can));
      was = λ told. same_but v.user window common_first had.stores (was told) (λ x n. sym (same_but 0 first had.stores had.stores (was_common told) (λ y m. refl) x));
      now = λ told. same_but v.user left (with_store 0 last f) has.stores (mine told) (λ x n. elsewhere told x n (either 0 x));
      tells = tells;
      common = common;
    }
  where
    common_first : ℕ → Stored
    common_first = with_store 0 first had.stores

    f : ℕ → Stored
    f = with_store v.user window common_first

    left : Stored
    left = store_after t (blocks_of p.inner) after

    zero_first : f 0 ≡ first
    zero_first = common_stays common_first window v.user who.some ∙ with_own 0 first had.stores

    reply : Reply
    reply = reply_for (joined f old) made

    replies : reply_for (with_files first.files old) made ≡ reply
    replies = ap (λ (s : Stored). reply_for (with_files s.files old) made) (sym zero_first)

    files : commons_for (with_files first.files old) made ≡ commons_for (joined f old) made
    files = ap (λ (s : Stored). commons_for (with_files s.files old) made) (sym zero_first)

    says : IsStep t asked made old.system.clock reply (user_at v.user old.system.users) p window after
    says = subst (λ (q : Reply). IsStep t asked made old.system.clock q (user_at v.user old.system.users) p window after) (answer ∙ replies) said

    with_words : {X : Type 0} (g : User → X) → g (in_store window (user_at v.user old.system.users)) ≡ g (in_store (f v.user) (user_at v.user old.system.users))
    with_words g = ap (λ (c : Stored). g (in_store c (user_at v.user old.system.users))) (sym (with_own v.user window common_first))

    elsewhere : had.tells ≡ true → (x : ℕ) → x ≢ v.user → (x ≡ 0) ⊎ (x ≢ 0) → has.stores x ≡ with_store 0 last f x
    elsewhere told x n (inl e) = ap has.stores e ∙ now_common told ∙ sym (with_own 0 last f) ∙ ap (with_store 0 last f) (sym e)
    elsewhere told x n (inr m) = others x (omega (arith, m)) n ∙ sym (with_other 0 x first had.stores m) ∙ sym (with_other v.user x window common_first n) ∙ sym (with_other 0 x last f m)

-- after a call that left the run as it was
pub does_from : (f : Run → Run) (old mid new : Run) (had has at : Held) → mid ≡ old → (had.tells ≡ true → (u : ℕ) → at.stores u ≡ had.stores u) → at.tells ≡ had.tells → at.common ≡ had.common
    → Does f mid new at has → Does f old new had has
does_from f old mid new had has at is words tells common d =
    record {
      before = d.before;
      after = d.after;
      is = d.is ∙ ap (λ (r : Run). f (joined d.before r)) is;
      was = λ t u. d.was (tells ∙ t) u ∙ words t u;
      now = λ t u. d.now (tells ∙ t) u;
      tells = d.tells ∙ tells;
      common = d.common ∙ common;
    }

-- who is served

abbrev Chosen : Type 0
Chosen = Option (ℕ × Waiting)

abbrev GoesOn : ℕ → Chosen → Option Service → (old new : Run) → (had has : Held) → Type 0
GoesOn limit x v old new had has = Does (otherwise limit (user_of x) v) old new had has

by_both : (limit : ℕ) (x : Chosen) (v : Option Service) (old new : Run) (had has : Held) → chosen old.system.plan.levels ≡ x → old.system.service ≡ v → GoesOn limit x v old new had has
    → Does (otherwise limit (user_of (chosen old.system.plan.levels)) old.system.service) old new had has
by_both limit x v old new had has c s d =
    subst (λ (y : Chosen). GoesOn limit y old.system.service old new had has) (sym c) (subst (λ (w : Option Service). GoesOn limit x w old new had has) (sym s) d)

pub go_idle : (limit : ℕ) (old new : Run) (had has : Held) → chosen old.system.plan.levels ≡ None → old.system.service ≡ None → Does (idled limit) old new had has
    → Does (otherwise limit (user_of (chosen old.system.plan.levels)) old.system.service) old new had has
go_idle limit old new had has c s d =
    by_both limit None None old new had has c s (does_as (idled limit) (otherwise limit None None) old new had has (λ w. sym (idles limit (joined w old))) d)

pub go_end_none : (limit : ℕ) (v : Service) (old new : Run) (had has : Held) → chosen old.system.plan.levels ≡ None → old.system.service ≡ Some v → Does (broken_off v) old new had has
    → Does (otherwise limit (user_of (chosen old.system.plan.levels)) old.system.service) old new had has
go_end_none limit v old new had has c s d =
    by_both limit None (Some v) old new had has c s (does_as (broken_off v) (otherwise limit None (Some v)) old new had has (λ w. sym (preempts_none limit v (joined w old))) d)

pub go_end : (limit m : ℕ) (x : Waiting) (v : Service) (old new : Run) (had has : Held) → chosen old.system.plan.levels ≡ Some (m, x) → old.system.service ≡ Some v → v.user ≢ x.user → Does (broken_off v) old new had has
    → Does (otherwise limit (user_of (chosen old.system.plan.levels)) old.system.service) old new had has
go_end limit m x v old new had has c s other d =
    by_both limit (Some (m, x)) (Some v) old new had has c s (does_as (broken_off v) (otherwise limit (Some x.user) (Some v)) old new had has (λ w. sym (preempts limit x.user v (joined w old) other)) d)

pub go_begin : (limit m : ℕ) (x : Waiting) (v : Service) (old new : Run) (had has : Held) → chosen old.system.plan.levels ≡ Some (m, x) → old.system.service ≡ None
    → v ≡ record { tick = old.system.clock; user = x.user; level = m; ran = 0 } → Does (attended v) old new had has
    → Does (otherwise limit (user_of (chosen old.system.plan.levels)) old.system.service) old new had has
unfolding joined
go_begin limit m x v old new had has c s is d =
    by_both limit (Some (m, x)) None old new had has c s
    (does_as (attended v) (otherwise limit (Some x.user) None) old new had has
    (λ w. ap (λ (y : Service). attended y (joined w old)) (is ∙ ap (λ (y : Chosen). begun (level_in y)) (sym c)) ∙ sym (begins limit x.user (joined w old))) d)
  where
    begun : ℕ → Service
    begun l = record { tick = old.system.clock; user = x.user; level = l; ran = 0 }

pub go_same : (limit m : ℕ) (x : Waiting) (v : Service) (old new : Run) (had has : Held) → chosen old.system.plan.levels ≡ Some (m, x) → old.system.service ≡ Some v → v.user ≡ x.user → Does (attended v) old new had has
    → Does (otherwise limit (user_of (chosen old.system.plan.levels)) old.system.service) old new had has
go_same limit m x v old new had has c s is d =
    by_both limit (Some (m, x)) (Some v) old new had has c s (does_as (attended v) (otherwise limit (Some x.user) (Some v)) old new had has (λ w. sym (goes_on limit x.user v (joined w old) is)) d)

-- the user whose service is open is known to be the chosen one
pub go_served : (limit : ℕ) (v : Service) (old new : Run) (had has : Held) → user_of (chosen old.system.plan.levels) ≡ Some v.user → old.system.service ≡ Some v → Does (attended v) old new had has
    → Does (otherwise limit (user_of (chosen old.system.plan.levels)) old.system.service) old new had has
go_served limit v old new had has c s d =
    subst (λ (o : Option ℕ). Does (otherwise limit o old.system.service) old new had has) (sym c)
    (subst (λ (o : Option Service). Does (otherwise limit (Some v.user) o) old new had has) (sym s)
    (does_as (attended v) (otherwise limit (Some v.user) (Some v)) old new had has (λ w. sym (goes_on limit v.user v (joined w old) refl)) d))

-- the user that is served has blocks that are not in core, and their load was cut off
pub load_fails : (m : ℕ) (x : Waiting) (old : Run) (m' : Held) (was now : Option CallList) → chosen old.system.plan.levels ≡ Some (m, x) → ((v : Service) → old.system.service ≡ Some v → v.user ≡ x.user)
    → IsTied old.system.users m' → IsUser x.user old → is_loaded old.system.plan.places x.user (size_of m'.sizes x.user) ≡ false → IsCutOff was now (calls_to_load x.user old) → LoadFails old was now
load_fails m x old m' was now c served tied who absent cut =
    record {
      due = record {
        user = x.user;
        chosen_is = ap user_of c;
        served = served;
        absent = ap not (ap (is_loaded old.system.plan.places x.user) (sym (tied.has x.user who.some who.within)) ∙ absent);
      };
      cut = cut;
    }

-- one step

pub does_event : (limit : ℕ) (e : Timed) (old new : Run) (had has : Held) → due_of old.system.events old.system.clock ≡ Some e → Does (taken e) old new had has → Does (next limit) old new had has
unfolding joined
does_event limit e old new had has is d =
    does_as (taken e) (next limit) old new had has
    (λ w. sym (next_due limit (joined w old) ∙ ap (λ (o : Option Timed). by_due limit o (joined w old)) is)) d

pub does_none : (limit : ℕ) (old new : Run) (had has : Held) → due_of old.system.events old.system.clock ≡ None → rising old ≡ None
    → Does (otherwise limit (user_of (chosen old.system.plan.levels)) old.system.service) old new had has → Does (next limit) old new had has
unfolding joined
does_none limit old new had has is low d =
    does_as (otherwise limit (user_of (chosen old.system.plan.levels)) old.system.service) (next limit) old new had has
    (λ w. sym (next_due limit (joined w old) ∙ ap (λ (o : Option Timed). by_due limit o (joined w old)) is ∙ ap (λ (o : Option (ℕ × ℕ)). by_rising limit o (joined w old)) low)) d

pub does_rise : (limit : ℕ) (old new : Run) (had has : Held) → due_of old.system.events old.system.clock ≡ None → is_some (rising old) ≡ true → Does raised old new had has → Does (next limit) old new had has
unfolding joined
does_rise limit old new had has is up d =
    does_as raised (next limit) old new had has
    (λ w. sym (next_due limit (joined w old) ∙ ap (λ (o : Option Timed). by_due limit o (joined w old)) is ∙ by_who (joined w old) (rising old) up)) d
  where
    by_who : (r : Run) (o : Option (ℕ × ℕ)) → is_some o ≡ true → by_rising limit o r ≡ rise_of o r
    by_who r None h = cc
    by_who r (Some x) h = refl

pub does_sound : (limit : ℕ) (old new : Run) (had has : Held) → old.system.clock < limit → Sound old → Does (next limit) old new had has → Sound new
unfolding joined
does_sound limit old new had has up sound d =
    sound_unjoined d.after new (subst Sound (sym d.is) (sound_next limit (joined d.before old) up (sound_joined d.before old sound)))

pub does_fall : (limit : ℕ) (old new : Run) (had has : Held) → old.system.clock < limit → Does (next limit) old new had has → measure limit new < measure limit old
unfolding joined
does_fall limit old new had has up d =
    let falls = measure_next limit (joined d.before old) up in
    let a = measure_joined limit d.before old in
    let b : measure limit new ≡ measure limit (next limit (joined d.before old)) = sym (measure_joined limit d.after new) ∙ ap (measure limit) d.is in
    omega (arith, falls, a, b)
