-- In the run of a script with one account and without an age the user is chosen if it can step, and nobody rises.
use Rattle.std.proofs.Common.{◌≡◌, ℕ, suc, ◌≤◌, Bool, true, cond, nat_eq, List, [], ◌∷◌, length, drop}
use Rattle.std.proofs.Common.{Option, Some, None, refl, sym, ap, subst, ◌∙◌, arith, eq-eqb}
use Rattle.std.specs.Prelude.{if◌then◌else◌}
use Rattle.ctss_types.specs.declared.script.Script.{Script}
use Rattle.ctss_types.specs.declared.session.Waiting.{Waiting}
use Rattle.time_sharing.specs.System.{served_of}
use Rattle.plan_model.specs.Levels.{Levels, is_in, waits, first_of, first_with, has_waited, chosen, user_of}
use Rattle.plan_model.specs.Levels.{riser, goes_up}
use Rattle.plan_model.specs.Times.{count}
use Rattle.system_model.specs.Run.{Run, AfterSteps}
use Rattle.system_model.specs.Record.{start_of}
use Rattle.fair_laws.specs.Waits.{IsUsual}
use Rattle.fair_laws.proofs.Whole.{run_at, sound_at, ready_stand}
use Rattle.trace_laws.proofs.Moments.{HasOne}

-- a user that is in the lists is first, where nobody else is
first_is : (u l : ℕ) (rows : List (List Waiting)) → is_in u rows ≡ true → ((v : ℕ) → 1 ≤ count v rows → v ≡ u)
    → user_of (first_of l rows) ≡ Some u
first_is u l [] h only = cc
first_is u l ([] ∷ rows) h only = first_is u (suc l) rows h (λ v some. only v (omega (arith, some)))
first_is u l ((x ∷ row) ∷ rows) h only =
    let same = eq-eqb x.user x.user refl in
    let itself : ◌≡◌ {A = ℕ} (cond (nat_eq x.user x.user) 1 0) 1 = ap (λ (b : Bool). cond b 1 0) same in
    ap Some (only x.user (omega (arith, itself)))

first_chosen : (u : ℕ) (q : Levels) → waits u q ≡ true → ((v : ℕ) → 1 ≤ count v q.rows → v ≡ u)
    → user_of (chosen q) ≡ Some u
unfolding waits chosen
first_chosen u q h only = first_is u 0 q.rows h only

-- without an age nobody rises
none_rises : (served : Option ℕ) (now : ℕ) (q : Levels) → q.age ≡ 0 → riser served now q ≡ None
unfolding riser
none_rises served now q none =
    ap (λ (b : Bool). if b then None else first_with (has_waited q.age served now) 1 (drop 1 q.rows))
    (ap (λ (age : ℕ). nat_eq age 0) none)

module _ (script : Script) (usual : IsUsual script) (r : Run) (after : AfterSteps script.end (start_of script) r) where
  -- each user that is in the lists has an account
  known_at : (v : ℕ) → 1 ≤ count v r.system.plan.levels.rows → (1 ≤ v) × (v ≤ length script.accounts)
  unfolding AfterSteps start_of run_at
  known_at v =
      subst (λ (x : Run). 1 ≤ count v x.system.plan.levels.rows → (1 ≤ v) × (v ≤ length script.accounts)) (sym after.1)
      ((sound_at script usual 0 0 after.0).order.good.known v)

  -- the age is the script's
  age_at : r.system.plan.levels.age ≡ script.params.age
  unfolding AfterSteps start_of run_at
  age_at =
      ap (λ (x : Run). x.system.plan.levels.age) after.1 ∙ (sound_at script usual 0 0 after.0).order.age_is

  only_one : length script.accounts ≡ 1 → (v : ℕ) → 1 ≤ count v r.system.plan.levels.rows → v ≡ 1
  only_one one v some =
      let k = known_at v some in
      omega (arith, k.0, k.1, one)

pub has_one : (script : Script) → IsUsual script → script.params.age ≡ 0 → length script.accounts ≡ 1
    → HasOne script.end (start_of script)
has_one script usual never one =
    record {
      stands = λ r after can.
          let ready = ready_stand script 1 r usual after can in
          first_chosen 1 r.system.plan.levels ready (only_one script usual r after one);
      stay = λ r after.
          let none = age_at script usual r after ∙ never in
          ap goes_up (none_rises (served_of r.system.service) r.system.clock r.system.plan.levels none);
    }
