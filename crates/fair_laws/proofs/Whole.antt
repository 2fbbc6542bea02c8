-- The laws of waiting, in the run of every script.
use Rattle.std.proofs.Common.{◌≡◌, ◌≢◌, ℕ, zero, suc, ◌+◌, ◌-◌, ◌*◌, ◌<◌, ◌≤◌, Bool, true, false, cond, ◌&&◌, nat_eq, List, [], ◌∷◌, length, get_or, Option, Some, None, inl, inr}
use Rattle.std.proofs.Common.{refl, sym, ap, subst, ◌∙◌, arith}
use Rattle.std.specs.List.{All}
use Rattle.std.proofs.lemmas.Bool.Decides.{eqb_tells}
use Rattle.std.proofs.lemmas.List.Elements.{recursion_from_All}
use Rattle.std.specs.List.{AllByRecursion}
use Rattle.ctss_types.specs.declared.script.Script.{Script}
use Rattle.ctss_types.specs.declared.script.Account.{Account}
use Rattle.ctss_types.specs.declared.file.FileBody.{FileBody}
use Rattle.ctss_types.specs.declared.file.OwnedFile.{OwnedFile}
use Rattle.time_sharing.specs.Machine.{Line, Reply}
use Rattle.time_sharing.specs.Rows.{machine, some_line, line_of, one_less, own_at_command_of}
use Rattle.time_sharing.specs.System.{World, Service, at, served_of}
use Rattle.time_sharing.specs.Record as whole
use Rattle.user_model.specs.Inner.{blocks_of}
use Rattle.user_model.specs.Session.{user_rows, nobody, next_of, asks_common_at}
use Rattle.user_model.specs.User.{User, step, ending}
use Rattle.user_model.proofs.WentLaws.{went_stays}
use Rattle.plan_model.specs.Levels.{Levels, waits, is_served}
use Rattle.plan_model.specs.Plan.{Plan, first_plan}
use Rattle.system_model.specs.World.{world_with, leaves, line_blocks, asked, check, account_in, account_with, password_by}
use Rattle.ctss_types.specs.Words.{words_of}
use Rattle.file_model.specs.Commons.{reply_to, files_after}
use Rattle.system_model.specs.Run.{Run, AfterSteps, world}
use Rattle.system_model.specs.Record.{users_from, start_of, consoles}
use Rattle.system_model.proofs.RunLaws.{ends}
use Rattle.fair_laws.specs.Bound.{longest_load, longest_wait, wait_at_zero}
use Rattle.fair_laws.specs.Waits.{IsUsual, WaitsAt, WaitEndsBy, Served, CutOff, RunIsOver, before, level_row}
use Rattle.fair_laws.specs.Laws.{NobodyStarves, WaitsAreBounded, LevelZeroIsServed, ReadyStand, ReadyAreServed}
use Rattle.fair_laws.proofs.Row.{has}
use Rattle.fair_laws.proofs.Queue.{row_of, Stands}
use Rattle.fair_laws.proofs.Turns.{times_le, in-row, has-within, before-few, stands-first, stands-deep}
use Rattle.fair_laws.proofs.Wait as wait
use Rattle.fair_laws.proofs.World as queues
use Rattle.fair_laws.proofs.World.{InOrder}
use Rattle.fair_laws.proofs.Sizes.{KeepsSize, any_step_keeps, cut_keeps}
use Rattle.std.proofs.Common.{not}
use Rattle.time_sharing.specs.Machine.{CutKind, Quit, Hang, Spent, End, Ending, Went, Stopped, Resized, Replaced, LoggedOut}
use Rattle.time_sharing.specs.Rows.{is_logout}
use Rattle.time_sharing.specs.System.{cause_of}
use Rattle.program_model.specs.declared.ProgramState.TheVariants.{Dead, Dormant, Working}
use Rattle.user_model.specs.Session.{quitted, works_in}
use Rattle.plan_model.specs.Levels.{chosen, user_of, has_time, charged, entered_again, dropped, command_blocks}
use Rattle.fair_laws.proofs.Turns.{ticks-goes, ticks-time, ticks-leaves, ticks-entered, ticks-again}
use Rattle.fair_laws.proofs.Rests.{Rested, step_rested, can_has_line}
use Rattle.fair_laws.proofs.Standing.{In, in-waits, in-preempted, in-entered_anew, in-woken, in-others_woken, in-dropped, in-risen, in-charged, nine-charged, in-ticks}
use Rattle.fair_laws.proofs.Ready as ready
use Rattle.user_model.specs.User.{can_step}

-- users' programs

abbrev Small : User → Type 0
Small p = (p.inner.blocks ≤ p.inner.account.blocks) × (p.inner.account.blocks ≤ 128)

abbrev pub size : User → ℕ
size p = blocks_of p.inner

abbrev has_lines : User → Bool
has_lines p = some_line p.unread

keeps : (p q : User) → KeepsSize p.inner q.inner → Small p → Small q
keeps p q k s =
    let e = ap (λ (a : Account). a.blocks) k.0 in
    let l = k.1 s.0 in
    let m = s.1 in
    (omega (arith, e, l), omega (arith, e, m))

module _ (swap common : ℕ) (accounts : List Account) where
  abbrev w : World User Plan (List FileBody)
  w =
      queues.queue_world size line_blocks has_lines leaves swap (λ f op. files_after common f op) (λ f op. reply_to common f op) asked (check accounts) nobody

  leave : queues.Leaves size line_blocks has_lines leaves swap (λ f op. files_after common f op) (λ f op. reply_to common f op) asked (check accounts) nobody
  leave =
      record {
        time = λ q v p now. refl;
        wait = λ q v p now. refl;
        stop = λ q v p now. refl;
        size = λ q v p now. refl;
        preempt = λ q v p now. refl;
        at_end = λ q v p now. refl;
      }

  sized : queues.Sized size line_blocks has_lines leaves swap (λ f op. files_after common f op) (λ f op. reply_to common f op) asked (check accounts) nobody (machine user_rows) Small
  unfolding step ending
  sized =
      record {
        typed = λ p l. refl;
        opened = λ p. refl;
        went = λ p t r e. went_stays t r p e;
        small = λ p s. let a = s.0 in let b = s.1 in omega (arith, a, b);
        typed_small = λ p l s. s;
        opened_small = λ p s. s;
        cut_small = λ kind p s. keeps p ((machine user_rows).cut kind p) (cut_of kind p) s;
        step_small = λ p t r s. keeps p ((machine user_rows).step p t r)
            (any_step_keeps (asks_common_at (next_of p.inner) p.inner (line_of user_rows p)) (next_of p.inner) p.inner (line_of user_rows p)
            (suc p.own - own_at_command_of user_rows p) (one_less (line_of user_rows p) p.fed) t r) s;
      }
    where
      cut_of : (kind : Rattle.time_sharing.specs.Machine.CutKind) (p : User) → KeepsSize p.inner ((machine user_rows).cut kind p).inner
      cut_of Rattle.time_sharing.specs.Machine.Quit p = cut_keeps Rattle.time_sharing.specs.Machine.Quit p.inner
      cut_of Rattle.time_sharing.specs.Machine.Hang p = cut_keeps Rattle.time_sharing.specs.Machine.Hang p.inner
      cut_of Rattle.time_sharing.specs.Machine.Spent p = cut_keeps Rattle.time_sharing.specs.Machine.Spent p.inner
      cut_of Rattle.time_sharing.specs.Machine.End p = cut_keeps Rattle.time_sharing.specs.Machine.End p.inner

-- a user that logs in has an account

account_range : (k : ℕ) (accounts : List Account) (name password v : ℕ) → account_in k accounts name password ≡ Some v → (k ≤ v) × (v < k + length accounts)
account_range k [] name password v e = cc
account_range k (a ∷ accounts) name password v e =
    by_test (nat_eq a.name name && nat_eq a.password password) (account_range (suc k) accounts name password v) e
  where
    by_test : (b : Bool) → (account_in (suc k) accounts name password ≡ Some v → (suc k ≤ v) × (v < suc k + length accounts))
        → cond b (Some k) (account_in (suc k) accounts name password) ≡ Some v → (k ≤ v) × (v < k + length (a ∷ accounts))
    by_test true rest e = let s : k ≡ v = cc in (omega (arith, s), omega (arith, s))
    by_test false rest e = let r = rest e in (omega (arith, r.0), omega (arith, r.1))

checked : (accounts : List Account) (name : ℕ) (l : Line) (v : ℕ) → check accounts name l ≡ Some v → (1 ≤ v) × (v ≤ length accounts)
unfolding check
checked accounts name l v e = by_password (password_by (words_of l)) e
  where
    by_password : (o : Option ℕ) → account_with accounts name o ≡ Some v → (1 ≤ v) × (v ≤ length accounts)
    by_password None e = cc
    by_password (Some password) e = let r = account_range 1 accounts name password v e in (r.0, omega (arith, r.1))

-- at the start

first_small : (accounts : List Account) (owned : List OwnedFile) (n k : ℕ) → AllByRecursion (λ (a : Account). a.blocks ≤ 128) accounts → Small (get_or (users_from n accounts owned) k nobody)
first_small [] owned n k h = (omega arith, omega arith)
first_small (a ∷ accounts) owned n zero h = (omega arith, h.0)
first_small (a ∷ accounts) owned n (suc k) h = first_small accounts owned (suc n) k h.1

all_small : (accounts : List Account) (owned : List OwnedFile) (k : ℕ) → All (λ (a : Account). a.blocks ≤ 128) accounts → Small (at nobody (users_from 1 accounts owned) k)
all_small accounts owned zero h = (omega arith, omega arith)
all_small accounts owned (suc k) h = first_small accounts owned 1 k (recursion_from_All (λ (a : Account). a.blocks ≤ 128) accounts h)

first_order : (script : Script) → InOrder script.params.age script.params.quantum (length script.accounts) 0 (first_plan script.params).levels
first_order script =
    record {
      age_is = refl;
      quantum_is = refl;
      good =
          record {
            nine = refl;
            once = λ v. omega arith;
            known = λ v h. absurd (omega (arith, h));
            fit = (tt, (tt, (tt, (tt, (tt, (tt, (tt, (tt, (tt, tt)))))))));
          };
    }

-- where a user stands, by the numbers of a script

more_stands : (age load last u by more : ℕ) (must : Bool) (now : ℕ) (q : Levels) → by ≤ more → Stands age load last u by must now q.rows → Stands age load last u more must now q.rows
more_stands age load last u by more must now q le (inl f) = let s = f.soon in inl (record { here = f.here; soon = omega (arith, s, le) })
more_stands age load last u by more must now q le (inr d) =
    let r = d.rises in
    let s = d.soon in
    inr (record { aged = d.aged; below = d.below; here = d.here; rises = omega (arith, r, le); soon = omega (arith, s, le) })

first_stands : (age quantum load users u now last : ℕ) (must : Bool) (q : Levels) → 0 < quantum → InOrder age quantum users now q → has u (row_of 0 q.rows) ≡ true
    → Stands age load last u (now + (before u (row_of 0 q.rows) * (quantum + load) + load + 1)) must now q.rows
first_stands age quantum load users u now last must q some o h =
    let b = before u (row_of 0 q.rows) in
    let s = stands-first load u now users last must q (subst (λ (n : ℕ). 0 < n) (sym o.quantum_is) some) o.good h in
    subst (λ (a : ℕ). Stands a load last u (now + (b * (quantum + load) + load + 1)) must now q.rows) o.age_is
    (subst (λ (n : ℕ). Stands q.age load last u (now + (b * (n + load) + load + 1)) must now q.rows) o.quantum_is s)

level_stands : (age quantum load users u now level : ℕ) (must : Bool) (q : Levels) → 0 < quantum → 0 < age → InOrder age quantum users now q → has u (row_of level q.rows) ≡ true
    → Stands age load (wait_at_zero quantum load users) u (now + longest_wait age quantum load users level) must now q.rows
level_stands age quantum load users u now zero must q some aged o h =
    let b = before u (row_of 0 q.rows) in
    let few = before-few users now u 0 q o.good h in
    let t = times_le b (users - 1) (quantum + load) few in
    more_stands age load (wait_at_zero quantum load users) u (now + (b * (quantum + load) + load + 1)) (now + longest_wait age quantum load users 0) must now q (omega (arith, t))
    (first_stands age quantum load users u now (wait_at_zero quantum load users) must q some o h)
level_stands age quantum load users u now (suc level) must q some aged o h =
    let s = stands-deep load u now users (wait_at_zero quantum load users) level must q (subst (λ (a : ℕ). 0 < a) (sym o.age_is) aged) o.good h in
    subst (λ (a : ℕ). Stands a load (wait_at_zero quantum load users) u (now + (suc level * (a + (load - 1)) + wait_at_zero quantum load users)) must now q.rows) o.age_is s

out_of : (u : ℕ) (o : Option Service) → is_served (served_of o) u ≡ false → (v : Service) → o ≡ Some v → v.user ≢ u
out_of u None h v e is = cc
out_of u (Some x) h v e is =
    let same : x ≡ v = cc in
    let mine : x.user ≡ u = ap (λ (z : Service). z.user) same ∙ is in
    elim (eqb_tells x.user u) [ inl k ↦ cc (k.0, h) | inr k ↦ k.1 mine ]

-- the run of a script

abbrev pub world_of : Script → World User Plan (List FileBody)
world_of script = world_with script.params.swap script.params.common script.accounts

abbrev pub state_at : Script → ℕ → Rattle.system_model.specs.Run.State
state_at script n =
    whole.iterate (machine user_rows) (world_of script) script.end n
    (whole.start (machine user_rows) (world_of script) (users_from 1 script.accounts script.files) [] (first_plan script.params) consoles script.events)

module _ (script : Script) (usual : IsUsual script) (u by : ℕ) where
  abbrev load : ℕ
  load = longest_load script.params.swap

  abbrev known_in : ℕ → Type 0
  known_in v = (1 ≤ v) × (v ≤ length script.accounts)

  abbrev order_in : Plan → ℕ → Type 0
  order_in plan now = InOrder script.params.age script.params.quantum (length script.accounts) now plan.levels

  abbrev waits_in : Bool → ℕ → Plan → Type 0
  waits_in b now plan = Stands script.params.age load (wait_at_zero script.params.quantum load (length script.accounts)) u by b now plan.levels.rows

  fair_in : wait.Fair (machine user_rows) (world_of script) u load by known_in Small order_in waits_in
  fair_in =
      queues.fair size line_blocks has_lines leaves script.params.swap (λ f op. files_after script.params.common f op) (λ f op. reply_to script.params.common f op) asked (check script.accounts) nobody
      (leave script.params.swap script.params.common script.accounts) (machine user_rows) Small (sized script.params.swap script.params.common script.accounts)
      script.params.age script.params.quantum (length script.accounts) u by usual.quantum (checked script.accounts)

  pub sound_at : (n : ℕ) → wait.Sound (machine user_rows) (world_of script) u load by known_in Small order_in waits_in (state_at script n)
  sound_at n =
      wait.iterate_sound (machine user_rows) (world_of script) u load by known_in Small order_in waits_in fair_in script.end n
      (whole.start (machine user_rows) (world_of script) (users_from 1 script.accounts script.files) [] (first_plan script.params) consoles script.events)
      (wait.start_sound (machine user_rows) (world_of script) u load by known_in Small order_in waits_in fair_in (users_from 1 script.accounts script.files) [] (first_plan script.params) consoles script.events
      (first_order script) (λ k. all_small script.accounts script.files k usual.blocks))

  abbrev must_at : ℕ → Bool
  must_at n = whole.must_load_of (machine user_rows) (world_of script) ((world_of script).choose (state_at script n).plan) (state_at script n)

  served_by : (n : ℕ) → is_served (served_of (state_at script n).service) u ≡ false → waits_in (must_at n) (state_at script n).clock (state_at script n).plan
      → (k : ℕ) × wait.Ended (machine user_rows) (world_of script) u load by known_in Small order_in waits_in fair_in script.end (state_at script n) k
  served_by n unserved stands =
      wait.waited (machine user_rows) (world_of script) u load by known_in Small order_in waits_in fair_in script.end (ends script.params.swap script.params.common script.accounts)
      (whole.measure (machine user_rows) (world_of script) script.end (state_at script n)) (state_at script n) (omega arith) (sound_at n)
      (record { out = out_of u (state_at script n).service unserved; waits = stands })

unfoldable pub run_at : Script → ℕ → Run
run_at script n = record { swap = script.params.swap; common = script.params.common; accounts = script.accounts; system = state_at script n }

ends_by : (script : Script) (u by n : ℕ) (usual : IsUsual script) → let r = run_at script n in
    (k : ℕ) × wait.IsOver (machine user_rows) (world_of script) u (longest_load script.params.swap) by (known_in script usual u by) Small (order_in script usual u by) (waits_in script usual u by) (fair_in script usual u by)
    script.end (state_at script n) (whole.iterate (machine user_rows) (world_of script) script.end k (state_at script n))
    → WaitEndsBy script.end by u r
unfolding AfterSteps run_at
ends_by script u by n usual h =
    let later : Run = record (run_at script n) { system = whole.iterate (machine user_rows) (world_of script) script.end h.0 (state_at script n) } in
    record { later = later; steps = (h.0, refl); soon = h.1.0; over = elim h.1.1 [ inl e ↦ Served e | inr e ↦ elim e [ inl c ↦ CutOff c | inr o ↦ RunIsOver o ] ] }

pub nobody_starves : NobodyStarves
unfolding AfterSteps start_of run_at
nobody_starves script u level r usual aged after h =
    let p = script.params in
    let load = longest_load p.swap in
    let bound = longest_wait p.age p.quantum load (length script.accounts) level in
    subst (λ (x : Run). WaitsAt level u x → WaitEndsBy script.end (x.system.clock + bound) u x) (sym after.1) (λ k. at_run after.0 k) h
  where
    at_run : (n : ℕ) → WaitsAt level u (run_at script n)
        → WaitEndsBy script.end ((state_at script n).clock + longest_wait script.params.age script.params.quantum (longest_load script.params.swap) (length script.accounts) level) u (run_at script n)
    at_run n k =
        let by : ℕ = (state_at script n).clock + longest_wait script.params.age script.params.quantum (longest_load script.params.swap) (length script.accounts) level in
        let e = served_by script usual u by n k.unserved
        (level_stands script.params.age script.params.quantum (longest_load script.params.swap) (length script.accounts) u (state_at script n).clock level (must_at script usual u by n) (state_at script n).plan.levels
        usual.quantum aged (sound_at script usual u by n).order k.stands) in
        ends_by script u by n usual (e.0, e.1)

pub level_zero_is_served : LevelZeroIsServed
unfolding AfterSteps start_of run_at
level_zero_is_served script u r usual after h =
    let p = script.params in
    let load = longest_load p.swap in
    subst (λ (x : Run). WaitsAt 0 u x → WaitEndsBy script.end (x.system.clock + (before u (level_row 0 x.system.plan.levels) * (p.quantum + load) + load + 1)) u x) (sym after.1) (λ k. at_run after.0 k) h
  where
    at_run : (n : ℕ) → WaitsAt 0 u (run_at script n)
        → WaitEndsBy script.end ((state_at script n).clock + (before u (level_row 0 (state_at script n).plan.levels) * (script.params.quantum + longest_load script.params.swap) + longest_load script.params.swap + 1)) u (run_at script n)
    at_run n k =
        let by : ℕ = (state_at script n).clock + (before u (level_row 0 (state_at script n).plan.levels) * (script.params.quantum + longest_load script.params.swap) + longest_load script.params.swap + 1) in
        let e = served_by script usual u by n k.unserved
        (first_stands script.params.age script.params.quantum (longest_load script.params.swap) (length script.accounts) u (state_at script n).clock
        (wait_at_zero script.params.quantum (longest_load script.params.swap) (length script.accounts)) (must_at script usual u by n) (state_at script n).plan.levels
        usual.quantum (sound_at script usual u by n).order k.stands) in
        ends_by script u by n usual (e.0, e.1)

-- of any level

level_found : (script : Script) (u : ℕ) (r : Run) → IsUsual script → AfterSteps script.end (start_of script) r → waits u r.system.plan.levels ≡ true
    → (level : ℕ) × (level ≤ 8) × (has u (row_of level r.system.plan.levels.rows) ≡ true)
unfolding AfterSteps start_of run_at waits
level_found script u r usual after h =
    let k = in-row u r.system.plan.levels.rows h in (
      k.0,
      subst (λ (x : Run). has u (row_of k.0 x.system.plan.levels.rows) ≡ true → k.0 ≤ 8) (sym after.1)
          (λ here. let n = ((sound_at script usual u 0 after.0).order).good.nine in let a = has-within u k.0 (state_at script after.0).plan.levels.rows here in omega (arith, n, a)) k.1,
      k.1,
    )

lower : (age load quantum users level : ℕ) → level ≤ 8 → longest_wait age quantum load users level ≤ longest_wait age quantum load users 8
lower age load quantum users level h = let t = times_le level 8 (age + (load - 1)) h in omega (arith, t)

pub waits_are_bounded : WaitsAreBounded
waits_are_bounded script u r usual aged after h unserved =
    let k = level_found script u r usual after h in
    let s = nobody_starves script u k.0 r usual aged after (record { stands = k.2; unserved = unserved }) in
    let l = lower script.params.age (longest_load script.params.swap) script.params.quantum (length script.accounts) k.0 k.1 in
    let soon = s.soon in
    record { later = s.later; steps = s.steps; soon = omega (arith, soon, l); over = s.over }

-- a user that can step is in the queues

abbrev Fine : User → Type 0
Fine p = p.on ≡ false → Rested p.inner

quitted_rested : (p : User) → Rested ((machine user_rows).cut Quit p).inner
quitted_rested p = by_state p.inner.state
  where
    by_state : (s : Rattle.program_model.specs.declared.ProgramState.ProgramState) → works_in (quitted s) ≡ false
    by_state Dead = refl
    by_state Dormant = refl
    by_state Working = refl

no_line : (p : User) → Rested p.inner → p.unread ≡ [] → (machine user_rows).can_step p ≡ false
no_line p h none = by_can ((machine user_rows).can_step p) refl
  where
    by_can : (b : Bool) → (machine user_rows).can_step p ≡ b → (machine user_rows).can_step p ≡ false
    by_can true e = absurd (let l = can_has_line p h e in let n = ap some_line none in cc (l, n))
    by_can false e = e

off_can : (p : User) → p.on ≡ false → (machine user_rows).can_step p ≡ false
off_can p e = rw e refl

module _ (script : Script) (usual : IsUsual script) where
  abbrev in_rows : ℕ → Plan → Type 0
  in_rows x plan = In x plan.levels

  abbrev in_order : Plan → ℕ → Type 0
  in_order plan now = InOrder script.params.age script.params.quantum (length script.accounts) now plan.levels

  other_in : (plan : Plan) (v x : ℕ) (e : Ending) (p : User) (now : ℕ) → user_of (chosen plan.levels) ≡ Some v → v ≢ x → In x plan.levels
      → In x (ready.after (machine user_rows) (world_of script) in_rows Fine in_order plan v (cause_of e (has_time plan.levels)) p e (suc now)).levels
  other_in plan v x Went p now is other h = by_time (has_time plan.levels) refl
    where
      by_time : (b : Bool) → has_time plan.levels ≡ b → In x (ready.after (machine user_rows) (world_of script) in_rows Fine in_order plan v (cause_of Went b) p Went (suc now)).levels
      by_time true e = in-ticks 0 1 x plan.levels.rows (charged v (suc now) plan.levels).rows (ticks-goes 0 x v (suc now) plan.levels is other e) h
      by_time false e = in-ticks 0 1 x plan.levels.rows (charged v (suc now) plan.levels).rows (ticks-time 0 x v (suc now) plan.levels is other e) h
  other_in plan v x Stopped p now is other h = in-ticks 0 1 x plan.levels.rows _ (ticks-again 0 x v (suc now) (some_line p.unread) plan.levels is other) h
  other_in plan v x Resized p now is other h = in-ticks 0 1 x plan.levels.rows _ (ticks-entered 0 x v (suc now) (size p) plan.levels is other) h
  other_in plan v x Replaced p now is other h = in-ticks 0 1 x plan.levels.rows _ (ticks-entered 0 x v (suc now) (size p) plan.levels is other) h
  other_in plan v x LoggedOut p now is other h = in-ticks 0 1 x plan.levels.rows _ (ticks-again 0 x v (suc now) (some_line p.unread) plan.levels is other) h

  own_in : (plan : Plan) (v : ℕ) (p : User) (t : ℕ) (r : Reply) (now : ℕ) → user_of (chosen plan.levels) ≡ Some v → in_order plan now
      → (machine user_rows).can_step ((machine user_rows).step p t r) ≡ true → (e : Ending) → (machine user_rows).ending p t r ≡ e
      → In v (ready.after (machine user_rows) (world_of script) in_rows Fine in_order plan v (cause_of e (has_time plan.levels)) ((machine user_rows).step p t r) e (suc now)).levels
  own_in plan v p t r now is o can Went ends = by_time (has_time plan.levels)
    where
      by_time : (b : Bool) → In v (ready.after (machine user_rows) (world_of script) in_rows Fine in_order plan v (cause_of Went b) ((machine user_rows).step p t r) Went (suc now)).levels
      by_time true = in-charged v (suc now) plan.levels o.good.nine is
      by_time false = in-charged v (suc now) plan.levels o.good.nine is
  own_in plan v p t r now is o can Stopped ends =
      let q = (machine user_rows).step p t r in
      let some = can_has_line q ((step_rested p t r).0 ends) can in
      subst (λ (b : Bool). In v (entered_again b v (suc now) (dropped v (charged v (suc now) plan.levels)))) (sym some)
      (in-entered_anew command_blocks v (suc now) (charged v (suc now) plan.levels) (nine-charged v (suc now) plan.levels o.good.nine))
  own_in plan v p t r now is o can Resized ends =
      in-entered_anew (size ((machine user_rows).step p t r)) v (suc now) (charged v (suc now) plan.levels) (nine-charged v (suc now) plan.levels o.good.nine)
  own_in plan v p t r now is o can Replaced ends =
      in-entered_anew (size ((machine user_rows).step p t r)) v (suc now) (charged v (suc now) plan.levels) (nine-charged v (suc now) plan.levels o.good.nine)
  own_in plan v p t r now is o can LoggedOut ends =
      absurd (let off : ((machine user_rows).step p t r).on ≡ false = ap (λ (e : Ending). not (is_logout e)) ends in let c = off_can ((machine user_rows).step p t r) off in cc (c, can))

  keeps_ready : ready.Keeps (machine user_rows) (world_of script) in_rows Fine in_order
  keeps_ready =
      record {
        typed_fine = λ p l h. h;
        opened_fine = λ p h e. cc;
        cut_fine = cut_fine;
        step_fine = λ p t r h off. step_fine p t r off;
        opened_can = λ p h shut. no_line ((machine user_rows).opened p) (h shut) refl;
        cut_can = cut_can;
        nobody_can = refl;
        line_in = λ plan x y was p now h. in-others_woken x (line_blocks was) y now plan.levels h;
        line_self = λ plan y was p now o. in-woken (line_blocks was) y now plan.levels o.good.nine;
        cut_in = λ plan x y kind p now other h. in-dropped x y plan.levels other h;
        risen_in = λ plan served x y l now is o h. in-risen served x y l now plan.levels o.good.nine is h;
        preempted_in = λ plan x y now h. in-preempted x y now plan.levels h;
        load_in = λ plan x y p now h. h;
        other_in = other_in;
        step_in = λ plan v p t r now is o can. own_in plan v p t r now is o can ((machine user_rows).ending p t r) refl;
        wait_in = λ plan v x p now is other h. in-ticks 0 1 x plan.levels.rows _ (ticks-leaves 0 x v (suc now) plan.levels is other) h;
      }
    where
      cut_fine : (kind : CutKind) (p : User) → Fine p → Fine ((machine user_rows).cut kind p)
      cut_fine Quit p h e = quitted_rested p
      cut_fine Hang p h e = refl
      cut_fine Spent p h e = refl
      cut_fine End p h e = h e

      step_fine : (p : User) (t : ℕ) (r : Reply) → ((machine user_rows).step p t r).on ≡ false → Rested ((machine user_rows).step p t r).inner
      step_fine p t r off = by_ending ((machine user_rows).ending p t r) refl
        where
          by_ending : (e : Ending) → (machine user_rows).ending p t r ≡ e → Rested ((machine user_rows).step p t r).inner
          by_ending LoggedOut k = (step_rested p t r).1 k
          by_ending Stopped k = (step_rested p t r).0 k
          by_ending Went k = absurd (let on = ap (λ (e : Ending). not (is_logout e)) k in cc (on, off))
          by_ending Resized k = absurd (let on = ap (λ (e : Ending). not (is_logout e)) k in cc (on, off))
          by_ending Replaced k = absurd (let on = ap (λ (e : Ending). not (is_logout e)) k in cc (on, off))

      cut_can : (kind : CutKind) (p : User) → kind ≢ End → (machine user_rows).can_step ((machine user_rows).cut kind p) ≡ false
      cut_can Quit p real = no_line ((machine user_rows).cut Quit p) (quitted_rested p) refl
      cut_can Hang p real = refl
      cut_can Spent p real = refl
      cut_can End p real = absurd (real refl)

-- at the start nobody can step
first_off : (accounts : List Account) (owned : List OwnedFile) (n k : ℕ) → let p = get_or (users_from n accounts owned) k nobody in (p.on ≡ false) × Rested p.inner
first_off [] owned n k = (refl, refl)
first_off (a ∷ accounts) owned n zero = (refl, refl)
first_off (a ∷ accounts) owned n (suc k) = first_off accounts owned (suc n) k

all_off : (accounts : List Account) (owned : List OwnedFile) (k : ℕ) → let p = at nobody (users_from 1 accounts owned) k in (p.on ≡ false) × Rested p.inner
all_off accounts owned zero = (refl, refl)
all_off accounts owned (suc k) = first_off accounts owned 1 k

module _ (script : Script) (usual : IsUsual script) where
  ready_at : (n : ℕ) → ready.Ready (machine user_rows) (world_of script) (in_rows script usual) Fine (in_order script usual) (state_at script n)
  ready_at n =
      ready.iterate_ready (machine user_rows) (world_of script) (in_rows script usual) Fine (in_order script usual) (keeps_ready script usual)
      (wait.Sound (machine user_rows) (world_of script) 0 (longest_load script.params.swap) 0 (known_in script usual 0 0) Small (order_in script usual 0 0) (waits_in script usual 0 0))
      (λ limit s h j. (wait.each_step (machine user_rows) (world_of script) 0 (longest_load script.params.swap) 0 (known_in script usual 0 0) Small (order_in script usual 0 0) (waits_in script usual 0 0)
      (fair_in script usual 0 0) limit s h).sound j)
      (λ s j. j.order) script.end n
      (whole.start (machine user_rows) (world_of script) (users_from 1 script.accounts script.files) [] (first_plan script.params) consoles script.events)
      (sound_at script usual 0 0 0)
      (record {
        stands = λ x can. absurd (let off = (all_off script.accounts script.files x).0 in let c = off_can (at nobody (users_from 1 script.accounts script.files) x) off in cc (c, can));
        fine = λ x off. (all_off script.accounts script.files x).1;
      })

pub ready_stand : ReadyStand
unfolding AfterSteps start_of run_at can_step
ready_stand script u r usual after can =
    subst (λ (x : Run). (machine user_rows).can_step (at nobody x.system.users u) ≡ true → waits u x.system.plan.levels ≡ true) (sym after.1)
    (λ c. in-waits u (state_at script after.0).plan.levels ((ready_at script usual after.0).stands u c)) can

pub ready_are_served : ReadyAreServed
ready_are_served script u r usual aged after can unserved =
    waits_are_bounded script u r usual aged after (ready_stand script u r usual after can) unserved
