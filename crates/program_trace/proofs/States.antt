-- The k-th step of a trace is that from the k-th state.
use Rattle.std.proofs.Common.{◌≡◌, ℕ, zero, suc, ◌+◌, ◌-◌, ◌<◌, ◌≤◌, Bool, true, false, ◌&&◌, List, [], ◌∷◌, ◌++◌, length, Some, Ok, Err, refl, sym, ap, subst, ◌∙◌, arith, append_assoc, append-nil}
use Rattle.std.specs.Prelude.{slice_get, if◌then◌else◌, IfOk}
use Rattle.std.specs.declared.result.Result.{Result}
use Rattle.time_sharing.specs.Machine.{Line}
use Rattle.user_model.specs.Session.{works_in}
use Rattle.user_model.specs.User.{can_step}
use Rattle.program_trace.specs.Steppings.{IsStepping}
use Rattle.program_trace.specs.declared.stepping.Stepping.{Stepping}
use Rattle.program_trace.specs.declared.stepping.Stepping.TheVariants.{Waits, Went}
use Rattle.program_trace.specs.Lone.{TracedUser, stepped, goes_on, gone, loaded}
use Rattle.program_trace.specs.declared.types.TraceEnd.{TraceEnd}
use Rattle.program_trace.specs.declared.types.TraceEnd.TheVariants as ends
use Rattle.program_trace.specs.Traces.{TracedStep, step_between, steps_from, end_of, traced, ShowsStates}
use Rattle.program_trace.proofs.Sessions.{own_rises}

pub gone_on : (n : ℕ) (a : TracedUser) → goes_on a ≡ true → gone (suc n) a ≡ gone n (stepped a)
unfolding gone
gone_on n a h = ap (λ (b : Bool). if b then gone n (stepped a) else a) h

pub gone_still : (n : ℕ) (a : TracedUser) → goes_on a ≡ false → gone n a ≡ a
unfolding gone
gone_still zero a h = refl
gone_still (suc n) a h = ap (λ (b : Bool). if b then gone n (stepped a) else a) h

pub steps_on : (n : ℕ) (a : TracedUser) → goes_on a ≡ true → steps_from (suc n) a ≡ step_between a (stepped a) ∷ steps_from n (stepped a)
unfolding steps_from
steps_on n a h = ap (λ (b : Bool). if b then step_between a (stepped a) ∷ steps_from n (stepped a) else []) h

pub steps_none : (n : ℕ) (a : TracedUser) → goes_on a ≡ false → steps_from n a ≡ []
unfolding steps_from
steps_none zero a h = refl
steps_none (suc n) a h = ap (λ (b : Bool). if b then step_between a (stepped a) ∷ steps_from n (stepped a) else []) h

no_step : (a : TracedUser) → steps_from 0 a ≡ []
unfolding steps_from
no_step a = refl

same_state : (a : TracedUser) → gone 0 a ≡ a
unfolding gone
same_state a = refl

-- what is to be shown of a state and a step
abbrev IsShown : (n k : ℕ) → TracedUser → Type 0
IsShown n k a = k < length (steps_from n a) → slice_get (steps_from n a) k ≡ Some (step_between (gone k a) (gone (suc k) a))

first_shown : (n : ℕ) (a : TracedUser) → goes_on a ≡ true → IsShown (suc n) 0 a
first_shown n a h within =
    ap (λ (ss : List TracedStep). slice_get ss 0) (steps_on n a h)
    ∙ (λ j. Some (step_between (sym (same_state a) j) (sym (gone_on 0 a h ∙ same_state (stepped a)) j)))

later_shown : (n k : ℕ) (a : TracedUser) → goes_on a ≡ true → IsShown n k (stepped a) → IsShown (suc n) (suc k) a
later_shown n k a h rest within =
    ap (λ (ss : List TracedStep). slice_get ss (suc k)) (steps_on n a h)
    ∙ rest (omega (arith, within, ap length (steps_on n a h)))
    ∙ (λ j. Some (step_between (sym (gone_on k a h) j) (sym (gone_on (suc k) a h) j)))

by_test : (b : Bool) (n k : ℕ) (a : TracedUser) → goes_on a ≡ b → ((m : ℕ) → IsShown n m (stepped a)) → IsShown (suc n) k a
by_test true n zero a h rest = first_shown n a h
by_test true n (suc k) a h rest = later_shown n k a h (rest k)
by_test false n k a h rest = λ within. absurd (omega (arith, within, ap length (steps_none (suc n) a h)))

shows : (n k : ℕ) (a : TracedUser) → IsShown n k a
shows zero k a = λ within. absurd (omega (arith, within, ap length (no_step a)))
shows (suc n) k a = by_test (goes_on a) n k a refl (λ m. shows n m (stepped a))

pub shows_states : ShowsStates
unfolding traced
shows_states n k deck lines within = shows n k (loaded deck lines) within

-- a run that does its steps one by one

both_hold : (a : TracedUser) → works_in a.user.inner.state ≡ true → can_step a.user ≡ true → goes_on a ≡ true
both_hold a works can = λ j. works j && can j

pub cannot_go : (a : TracedUser) → can_step a.user ≡ false → goes_on a ≡ false
cannot_go a can = by_test (works_in a.user.inner.state)
  where
    by_test : (b : Bool) → (b && can_step a.user) ≡ false
    by_test true = can
    by_test false = refl

pub works_not : (a : TracedUser) → works_in a.user.inner.state ≡ false → goes_on a ≡ false
works_not a works = ap (λ (b : Bool). b && can_step a.user) works

pub steps_more : (done : List TracedStep) (left : ℕ) (a b : TracedUser) (s : TracedStep) → 0 < left → works_in a.user.inner.state ≡ true → can_step a.user ≡ true
    → b ≡ stepped a → s ≡ step_between a b → done ++ steps_from left a ≡ (done ++ s ∷ []) ++ steps_from (left - 1) b
steps_more done zero a b s some works can is told = absurd (omega (arith, some))
steps_more done (suc n) a b s some works can is told =
    let seen : s ≡ step_between a (stepped a) = told ∙ ap (step_between a) is in
    let less : n ≡ suc n - 1 = omega arith in
    ap (λ (ss : List TracedStep). done ++ ss) (steps_on n a (both_hold a works can))
    ∙ sym (append_assoc done (step_between a (stepped a) ∷ []) (steps_from n (stepped a)))
    ∙ (λ j. (done ++ sym seen j ∷ []) ++ steps_from (less j) (sym is j))

pub gone_more : (left : ℕ) (a b : TracedUser) → 0 < left → works_in a.user.inner.state ≡ true → can_step a.user ≡ true → b ≡ stepped a → gone left a ≡ gone (left - 1) b
gone_more zero a b some works can is = absurd (omega (arith, some))
gone_more (suc n) a b some works can is =
    let less : n ≡ suc n - 1 = omega arith in
    gone_on n a (both_hold a works can) ∙ (λ j. gone (less j) (sym is j))

pub steps_end : (done : List TracedStep) (left : ℕ) (a : TracedUser) → goes_on a ≡ false → done ++ steps_from left a ≡ done
steps_end done left a still = ap (λ (ss : List TracedStep). done ++ ss) (steps_none left a still) ∙ append-nil done

pub steps_all : (done : List TracedStep) (left : ℕ) (a : TracedUser) → left ≡ 0 → done ++ steps_from left a ≡ done
steps_all done left a none = ap (λ (n : ℕ). done ++ steps_from n a) none ∙ ap (λ (ss : List TracedStep). done ++ ss) (no_step a) ∙ append-nil done

pub gone_all : (left : ℕ) (a : TracedUser) → left ≡ 0 → gone left a ≡ a
gone_all left a none = ap (λ (n : ℕ). gone n a) none ∙ same_state a

-- what is told of a step that waits, and of one that was done
pub waits_told : (a : TracedUser) (r : Stepping) (same : TracedUser) → IsStepping a r → r ≡ Waits same → (can_step a.user ≡ false) × (same ≡ a)
waits_told a r same h is = subst (IsStepping a) is h

pub went_told : (a : TracedUser) (r : Stepping) (next : TracedUser) → IsStepping a r → r ≡ Went next → (can_step a.user ≡ true) × (next ≡ stepped a)
went_told a r next h is = subst (IsStepping a) is h

-- each step counts as one
pub gone_own : (n : ℕ) (a : TracedUser) → (gone n a).user.own ≤ a.user.own + n
gone_own zero a = omega (arith, ap (λ (b : TracedUser). b.user.own) (same_state a))
gone_own (suc n) a = by_test (goes_on a) refl (gone_own n (stepped a))
  where
    by_test : (b : Bool) → goes_on a ≡ b → (gone n (stepped a)).user.own ≤ (stepped a).user.own + n → (gone (suc n) a).user.own ≤ a.user.own + suc n
    by_test true h rest = omega (arith, rest, own_rises a, ap (λ (b : TracedUser). b.user.own) (gone_on n a h))
    by_test false h rest = omega (arith, ap (λ (b : TracedUser). b.user.own) (gone_still (suc n) a h))

-- how a trace ends
pub ends_stopped : (a : TracedUser) → works_in a.user.inner.state ≡ false → ends.Stopped ≡ end_of a
ends_stopped a h = sym (ap (λ (b : Bool). if b then (if can_step a.user then ends.Unfinished else ends.Waits) else ends.Stopped) h)

pub ends_waiting : (a : TracedUser) → works_in a.user.inner.state ≡ true → can_step a.user ≡ false → ends.Waits ≡ end_of a
ends_waiting a h can =
    sym (ap (λ (b : Bool). if b then (if can_step a.user then ends.Unfinished else ends.Waits) else ends.Stopped) h
    ∙ ap (λ (b : Bool). if b then ends.Unfinished else ends.Waits) can)

pub ends_unfinished : (a : TracedUser) → works_in a.user.inner.state ≡ true → can_step a.user ≡ true → ends.Unfinished ≡ end_of a
ends_unfinished a h can =
    sym (ap (λ (b : Bool). if b then (if can_step a.user then ends.Unfinished else ends.Waits) else ends.Stopped) h
    ∙ ap (λ (b : Bool). if b then ends.Unfinished else ends.Waits) can)

-- what holds of a result that is there
pub if_then : {A E : Type 0} {P Q : A → Type 0} → (r : Result A E) → ((a : A) → P a → Q a) → IfOk r P → IfOk r Q
if_then (Ok a) f p = f a p
if_then (Err e) f p = p

pub early_of : (asked : TracedUser) → asked.user.own ≡ 1 → (a : TracedUser) → a ≡ gone 1 asked → a.user.own ≤ 2
early_of asked one a is = omega (arith, ap (λ (b : TracedUser). b.user.own) is, gone_own 1 asked, one)

-- the first step behind the beginning
pub asked_own : (a asked : TracedUser) → a.user.own ≡ 0 → asked ≡ stepped a → asked.user.own ≡ 1
asked_own a asked none is = ap (λ (b : TracedUser). b.user.own) is ∙ own_rises a ∙ ap suc none

-- a trace of the steps of a loaded program
pub is_traced : (n : ℕ) (deck : List ℕ) (lines : List Line) (begun alone : TracedUser) (steps : List TracedStep) (place : ℕ) (end : TraceEnd)
    → begun ≡ loaded deck lines → steps ≡ steps_from n begun → alone ≡ gone n begun → place ≡ alone.user.inner.regs.ic → end ≡ end_of alone
    → record { steps = steps; place = place; end = end } ≡ traced n deck lines
unfolding traced
is_traced n deck lines begun alone steps place end at all far stands ends =
    let last : alone ≡ gone n (loaded deck lines) = far ∙ ap (gone n) at in
    λ j. record {
      steps = (all ∙ ap (steps_from n) at) j;
      place = (stands ∙ ap (λ (a : TracedUser). a.user.inner.regs.ic) last) j;
      end = (ends ∙ ap end_of last) j;
    }
