-- Many steps of the user that is served, as steps of the whole machine.
use Rattle.std.proofs.Common.{◌≡◌, ℕ, zero, suc, ◌+◌, ◌-◌, ◌<◌, ◌≤◌, Bool, true, false, cond, nat_le, List, [], ◌∷◌, ◌++◌, length, Option, Some, None, refl, sym, ap, subst, ◌∙◌, arith}
use Rattle.std.proofs.lemmas.List.{get_or-set_same, set-get_or, set-set, append-nil}
use Rattle.std.proofs.lemmas.Bool.Decides.{nat_tests}
use Rattle.time_sharing.specs.Machine.{Ending, Went, CommonOp, Done}
use Rattle.time_sharing.specs.System.{Timed, Service, cause_of, consoles_after, service_after, service_entry, clock_entry, common_entry, next_tick}
use Rattle.ctss_types.specs.declared.session.Waiting.{Waiting}
use Rattle.cpu_regs.specs.declared.regs.Regs.{Regs}
use Rattle.machine_model.specs.Step.{went}
use Rattle.machine_model.specs.Runs.{many}
use Rattle.machine_model.proofs.Runs.{many_less}
use Rattle.user_model.specs.Session.{nobody}
use Rattle.user_model.specs.Inner.{Stored, blocks_of}
use Rattle.user_model.specs.User.{User, can_step, step, ending, asks_clock, asks_common, in_store}
use Rattle.user_model.specs.Runs.{IsAtWork, gone, HaveGone}
use Rattle.user_model.proofs.RunLaws.{work_on, work_can, work_ends, work_asks, work_makes, gone_more, gone_none}
use Rattle.plan_model.specs.Levels.{Levels, chosen, has_time, charged, riser, goes_up}
use Rattle.plan_model.specs.Spent.{spent, NobodyRises}
use Rattle.plan_model.specs.Plan.{must_load, places_after}
use Rattle.plan_model.proofs.SpentLaws.{still_chosen, still_time, still_none, charged_more, spent_none}
use Rattle.system_model.specs.Run.{Run, next, due_of, by_due, by_rising, otherwise, attended}
use Rattle.system_model.specs.Cases.{user_at, with_user, levels_after, reply_for, commons_for, stepped}
use Rattle.ctss_types.specs.declared.file.FileBody.{FileBody}
use Rattle.system_model.specs.Joined.{joined, with_store}
use Rattle.system_model.specs.Runs.{Passes, passed, elapsed}
use Rattle.system_model.specs.Sound.{IsUser}
use Rattle.system_model.proofs.CaseLaws.{next_due, goes_on, attended_steps}
use Rattle.system_model.proofs.JoinedLaws.{common_stays, set_joined, is_user_too, serves_joined}

-- a service that has served so many ticks more
abbrev later : ℕ → Service → Service
later n v = record v { ran = v.ran + n }

passed_user : (n : ℕ) (v : Service) (p : User) (r : Run) → IsUser v.user r → user_at v.user (passed n v p r).system.users ≡ p
unfolding passed
passed_user n v p r who = get_or-set_same r.system.users (v.user - 1) p nobody (let a = who.some in let b = who.within in omega (arith, a, b))

-- the next step attends to the user
passed_attends : (limit n l : ℕ) (w : Waiting) (v : Service) (p : User) (r : Run) → due_of r.system.events (r.system.clock + n) ≡ None
    → riser (Some v.user) (r.system.clock + n) r.system.plan.levels ≡ None → chosen r.system.plan.levels ≡ Some (l, w) → w.user ≡ v.user → next limit (passed n v p r) ≡ attended (later n v) (passed n v p r)
unfolding passed
passed_attends limit n l w v p r quiet low is mine =
    next_due limit (passed n v p r)
    ∙ ap (λ (o : Option Timed). by_due limit o (passed n v p r)) quiet
    ∙ ap (λ (o : Option (ℕ × Waiting)). by_rising limit (goes_up o) (passed n v p r)) (still_none n v.user (r.system.clock + n) (Some v.user) r.system.plan.levels low)
    ∙ ap (λ (o : Option ℕ). otherwise limit o (Some (later n v)) (passed n v p r)) (still_chosen n v.user l w r.system.plan.levels is mine)
    ∙ goes_on limit v.user (later n v) (passed n v p r) refl

-- a step that goes on, of a user that was as p
abbrev stepped_as : ℕ → Service → User → User → Run → Option CommonOp → Ending → Bool → Bool → Run
stepped_as n v p x r made e time asked =
    let t = r.system.clock + n in
    let cause = cause_of e time in
    let q = step t (reply_for r made) x in
    record r {
      system = record r.system {
        users = with_user v.user q (with_user v.user p r.system.users);
        files = commons_for r made;
        plan = record {
          levels = levels_after cause v.user q (suc t) (charged v.user (suc t) (spent n v.user r.system.plan.levels));
          places = places_after e v.user (blocks_of q.inner) r.system.plan.places;
        };
        consoles = consoles_after e v.user r.system.consoles;
        clock = suc t;
        service = service_after (later n v) cause;
        entries = r.system.entries ++ (clock_entry asked t v.user ++ (common_entry made v.user (reply_for r made) ++ service_entry (later n v) cause));
      };
    }

passed_steps : (n l : ℕ) (w : Waiting) (v : Service) (p : User) (r : Run) → IsUser v.user r
    → chosen r.system.plan.levels ≡ Some (l, w) → w.user ≡ v.user → suc n < w.left
    → ending (r.system.clock + n) Done p ≡ Went → asks_clock p ≡ false → asks_common p ≡ None
    → stepped (later n v) (passed n v p r) ≡ passed (suc n) v (step (r.system.clock + n) Done p) r
unfolding passed stepped
passed_steps n l w v p r who is mine left ends asks makes =
    let t = r.system.clock + n in
    let time = still_time n v.user l w r.system.plan.levels is mine left in
    let more : suc (r.system.clock + n) ≡ r.system.clock + suc n = omega arith in
    let ran : suc (v.ran + n) ≡ v.ran + suc n = omega arith in
    ap (λ (x : User). stepped_as n v p x r (asks_common x) (ending t (reply_for r (asks_common x)) x) (has_time (spent n v.user r.system.plan.levels)) (asks_clock x)) (get_or-set_same r.system.users (v.user - 1) p nobody (let a = who.some in let b = who.within in omega (arith, a, b)))
    ∙ ap (λ (o : Option CommonOp). stepped_as n v p p r o (ending t (reply_for r o) p) (has_time (spent n v.user r.system.plan.levels)) (asks_clock p)) makes
    ∙ (λ j. stepped_as n v p p r None (ends j) (time j) (asks j))
    ∙ (λ j. record r {
      system = record r.system {
        users = set-set r.system.users (v.user - 1) p (step t Done p) j;
        plan = record r.system.plan { levels = charged_more n v.user (suc t) r.system.plan.levels time j };
        clock = more j;
        service = Some (record v { ran = ran j });
        entries = append-nil r.system.entries j;
      };
    })

must_passed : (n : ℕ) (v : Service) (p : User) (r : Run) → IsUser v.user r → must_load r.system.plan v.user (blocks_of p.inner) ≡ false
    → must_load (passed n v p r).system.plan v.user (blocks_of (user_at v.user (passed n v p r).system.users).inner) ≡ false
unfolding passed
must_passed n v p r who loaded = ap (λ (x : User). must_load r.system.plan v.user (blocks_of x.inner)) (passed_user n v p r who) ∙ loaded

-- one step more
pub passed_next : (limit n l : ℕ) (w : Waiting) (v : Service) (p : User) (r : Run) → IsUser v.user r → due_of r.system.events (r.system.clock + n) ≡ None
    → riser (Some v.user) (r.system.clock + n) r.system.plan.levels ≡ None → chosen r.system.plan.levels ≡ Some (l, w) → w.user ≡ v.user → suc n < w.left
    → must_load r.system.plan v.user (blocks_of p.inner) ≡ false → can_step p ≡ true → ending (r.system.clock + n) Done p ≡ Went → asks_clock p ≡ false → asks_common p ≡ None
    → next limit (passed n v p r) ≡ passed (suc n) v (step (r.system.clock + n) Done p) r
passed_next limit n l w v p r who quiet low is mine left loaded can ends asks makes =
    passed_attends limit n l w v p r quiet low is mine
    ∙ attended_steps (later n v) (passed n v p r) who.some (must_passed n v p r who loaded) (ap can_step (passed_user n v p r who) ∙ can)
    ∙ passed_steps n l w v p r who is mine left ends asks makes

-- none
pub passed_none : (v : Service) (p : User) (r : Run) → r.system.service ≡ Some v → p ≡ user_at v.user r.system.users → passed 0 v p r ≡ r
unfolding passed
passed_none v p r serves is =
    let more : r.system.clock + 0 ≡ r.system.clock = omega arith in
    let ran : v.ran + 0 ≡ v.ran = omega arith in
    λ j. record r {
      system = record r.system {
        users = (ap (λ (x : User). with_user v.user x r.system.users) is ∙ set-get_or r.system.users (v.user - 1) nobody) j;
        plan = record r.system.plan { levels = spent_none v.user r.system.plan.levels j };
        clock = more j;
        service = (ap (λ (k : ℕ). Some (record v { ran = k })) ran ∙ sym serves) j;
      };
    }

passed_clock : (n : ℕ) (v : Service) (p : User) (r : Run) → (passed n v p r).system.clock ≡ r.system.clock + n
unfolding passed
passed_clock n v p r = refl

passed_events : (n : ℕ) (v : Service) (p : User) (r : Run) → (passed n v p r).system.events ≡ r.system.events
unfolding passed
passed_events n v p r = refl

passed_entries : (n : ℕ) (v : Service) (p : User) (r : Run) → (passed n v p r).system.entries ≡ r.system.entries
unfolding passed
passed_entries n v p r = refl

-- no event is due before the next one's tick
pub quiet_until : (events : List Timed) (limit now n j : ℕ) → now + n ≤ next_tick limit events → j < n → due_of events (now + j) ≡ None
quiet_until [] limit now n j h below = refl
quiet_until (e ∷ es) limit now n j h below = by_test (nat_le e.tick (now + j)) refl
  where
    by_test : (b : Bool) → nat_le e.tick (now + j) ≡ b → cond b (Some e) None ≡ None
    by_test true is = absurd (grind (arith, nat_tests, is, h, below))
    by_test false is = refl

nobody_at : (served : Option ℕ) (until : ℕ) (q : Levels) → NobodyRises served until q → (t : ℕ) → t < until → riser served t q ≡ None
unfolding NobodyRises
nobody_at served until q low t early = low t early

-- Many instructions of the user of the service, with the words that it has in core, are as many steps of the machine.
pub passes : (limit n l : ℕ) (w : Waiting) (v : Service) (p : User) (c : Stored) (d : List ℕ) (s : Regs) (r : Run) → IsUser v.user r → r.system.service ≡ Some v
    → user_at v.user r.system.users ≡ in_store c p → chosen r.system.plan.levels ≡ Some (l, w) → w.user ≡ v.user → (0 < n → n < w.left)
    → r.system.clock + n ≤ limit → r.system.clock + n ≤ next_tick limit r.system.events
    → (until : ℕ) → NobodyRises (Some v.user) until r.system.plan.levels → r.system.clock + n ≤ until → must_load r.system.plan v.user (blocks_of p.inner) ≡ false
    → (0 < n → IsAtWork p) → many n p.inner.regs c.core ≡ went s d → Passes limit n r (passed n v (in_store (record c { core = d }) (gone n s p)) r)
passes limit zero l w v p c d s r who serves is first mine left up quiet until low early loaded work been =
    passed_none v (in_store (record c { core = d }) (gone 0 s p)) r serves (gone_none p c d s been ∙ sym is)
passes limit (suc n) l w v p c d s r who serves is first mine left up quiet until low early loaded work been =
    let b = many_less n p.inner.regs s c.core d been in
    let some : 0 < suc n = omega arith in
    let x : User = in_store (record c { core = b.words }) (gone n b.regs p) in
    let at : IsAtWork (gone n b.regs p) = work_on n b.regs p (work some) in (
      passed n v x r,
      passes limit n l w v p c b.words b.regs r who serves is first mine (λ h. let k = left some in omega (arith, k)) (omega (arith, up)) (omega (arith, quiet)) until low (omega (arith, early)) loaded (λ h. work some) b.been,
      subst (λ (k : ℕ). k < limit) (sym (passed_clock n v x r)) (omega (arith, up)),
      (λ j. due_of (passed_events n v x r j) (passed_clock n v x r j)) ∙ quiet_until r.system.events limit r.system.clock (suc n) n quiet (omega arith),
      sym (
          passed_next limit n l w v x r who (quiet_until r.system.events limit r.system.clock (suc n) n quiet (omega arith)) (nobody_at (Some v.user) until r.system.plan.levels low (r.system.clock + n) (omega (arith, early))) first mine (left some) loaded
          (work_can (gone n b.regs p) (record c { core = b.words }) d s at b.goes) (work_ends (r.system.clock + n) (gone n b.regs p) (record c { core = b.words }) d s at b.goes) (work_asks (gone n b.regs p) (record c { core = b.words }) d s at b.goes) (work_makes (gone n b.regs p) (record c { core = b.words }) d s at b.goes)
          ∙ ap (λ (y : User). passed (suc n) v y r) (gone_more n (r.system.clock + n) p (record c { core = b.words }) d b.regs s (work some) b.goes)
          ),
      ap length (passed_entries (suc n) v (in_store (record c { core = d }) (gone (suc n) s p)) r ∙ sym (passed_entries n v x r)),
    )

-- what such steps keep
pub passes_keep : (P : Run → Type 0) (limit n : ℕ) (old new : Run)
    → ((r : Run) → r.system.clock < limit → due_of r.system.events r.system.clock ≡ None → length (next limit r).system.entries ≡ length r.system.entries → P r → P (next limit r))
    → Passes limit n old new → P old → P new
passes_keep P limit zero old new on is h = subst P (sym is) h
passes_keep P limit (suc n) old new on p h =
    subst P (sym p.4) (on p.0 p.2 p.3 (ap (λ (r : Run). length r.system.entries) (sym p.4) ∙ p.5) (passes_keep P limit n old p.0 on p.1 h))

-- with stores apart
passed_joined : (n : ℕ) (v : Service) (f : ℕ → Stored) (d : Stored) (p : User) (r : Run) → IsUser v.user r
    → joined (with_store v.user d f) (passed n v p r) ≡ passed n v (in_store d p) (joined f r)
unfolding joined passed
passed_joined n v f d p r who = λ j. with_users (common_stays f d v.user who.some j).files (set_joined f r.system.users v.user d p who.some j)
  where
    with_users : List FileBody → List User → Run
    with_users files us =
        record r {
          system = record r.system {
            users = us;
            files = files;
            plan = record r.system.plan { levels = spent n v.user r.system.plan.levels };
            clock = r.system.clock + n;
            service = Some (record v { ran = v.ran + n });
          };
        }

pub elapsed_is : (n : ℕ) (v : Service) (p : User) (r : Run) → elapsed n v (record r { system = record r.system { users = with_user v.user p r.system.users } }) ≡ passed n v p r
unfolding elapsed passed
elapsed_is n v p r = refl

pub elapsed_users : (n : ℕ) (v : Service) (r : Run) → (elapsed n v r).system.users ≡ r.system.users
unfolding elapsed
elapsed_users n v r = refl

pub elapsed_entries : (n : ℕ) (v : Service) (r : Run) → (elapsed n v r).system.entries ≡ r.system.entries
unfolding elapsed
elapsed_entries n v r = refl

-- many instructions of the user of a service, with its words in core before and after them
pub passes_joined : (limit n l : ℕ) (w : Waiting) (v : Service) (f : ℕ → Stored) (c : Stored) (d : List ℕ) (p : User) (r : Run) → IsUser v.user r → r.system.service ≡ Some v
    → chosen r.system.plan.levels ≡ Some (l, w) → w.user ≡ v.user → (0 < n → n < w.left)
    → r.system.clock + n ≤ limit → r.system.clock + n ≤ next_tick limit r.system.events
    → (until : ℕ) → NobodyRises (Some v.user) until r.system.plan.levels → r.system.clock + n ≤ until → must_load r.system.plan v.user (blocks_of (user_at v.user r.system.users).inner) ≡ false
    → f v.user ≡ c → HaveGone n (user_at v.user r.system.users) p c.core d → Passes limit n (joined f r) (joined (with_store v.user (record c { core = d }) f) (passed n v p r))
unfolding joined
passes_joined limit n l w v f c d p r who serves first mine left up quiet until low early loaded words done =
    subst (Passes limit n (joined f r)) (ap (λ (q : User). passed n v (in_store (record c { core = d }) q) (joined f r)) (sym done.left) ∙ sym (passed_joined n v f (record c { core = d }) p r who))
    (passes limit n l w v (user_at v.user r.system.users) c d p.inner.regs (joined f r) (is_user_too f v.user r who) serves
    (serves_joined f v.user r who ∙ ap (λ (x : Stored). in_store x (user_at v.user r.system.users)) words) first mine left up quiet until low early loaded done.work done.went)
