-- An instruction of a program that goes on, as a step.
use Rattle.std.proofs.Common.{refl, ◌≡◌, ℕ, suc, ◌+◌, Bool, true, false, ◌&&◌, List, Option, None, sym, ap, ◌∙◌, arith}
use Rattle.time_sharing.specs.Machine.{Went, Done}
use Rattle.cpu_regs.specs.declared.regs.Regs.{Regs}
use Rattle.machine_model.specs.Step.{went}
use Rattle.machine_model.specs.Machine.{step_of}
use Rattle.machine_model.specs.Runs.{many}
use Rattle.machine_model.proofs.Runs.{many_none, none_regs, none_words}
use Rattle.user_model.specs.User.{User, can_step, step, ending, asks_clock, asks_common, in_store}
use Rattle.program_model.specs.Stops.{Stops}
use Rattle.user_model.specs.Inner.{Stored}
use Rattle.user_model.specs.Programs.{at_break, at_break_in}
use Rattle.user_model.specs.Runs.{IsAtWork, gone, HaveGone}
use Rattle.user_model.proofs.CoreLaws.{plain_step}
use Rattle.user_model.proofs.StepLaws.{run_ends, run_asks, run_makes, run_can}

-- the work goes on
pub work_on : (n : ℕ) (r : Regs) (p : User) → IsAtWork p → IsAtWork (gone n r p)
work_on n r p work = record { on = work.on; works = work.works; filled = work.filled; alone = work.alone }

-- without a debugger there is no break
unbroken : (p : User) → IsAtWork p → at_break p.inner ≡ false
unbroken p work = ap (λ (o : Option Stops). at_break_in o p.inner.regs.ic) work.alone

pub work_can : (p : User) (c : Stored) (d : List ℕ) (r : Regs) → IsAtWork p → step_of p.inner.regs c.core ≡ went r d → can_step (in_store c p) ≡ true
work_can p c d r work goes = run_can (in_store c p) (went r d) work.works work.filled (unbroken p work) goes ∙ ap (λ (b : Bool). b && true) work.on

pub work_ends : (t : ℕ) (p : User) (c : Stored) (d : List ℕ) (r : Regs) → IsAtWork p → step_of p.inner.regs c.core ≡ went r d → ending t Done (in_store c p) ≡ Went
work_ends t p c d r work goes = run_ends t (in_store c p) (went r d) work.works work.filled (unbroken p work) goes refl

pub work_asks : (p : User) (c : Stored) (d : List ℕ) (r : Regs) → IsAtWork p → step_of p.inner.regs c.core ≡ went r d → asks_clock (in_store c p) ≡ false
work_asks p c d r work goes = run_asks (in_store c p) (went r d) work.works work.filled (unbroken p work) goes

pub work_makes : (p : User) (c : Stored) (d : List ℕ) (r : Regs) → IsAtWork p → step_of p.inner.regs c.core ≡ went r d → asks_common (in_store c p) ≡ None
work_makes p c d r work goes = run_makes (in_store c p) (went r d) work.works work.filled (unbroken p work) goes

pub work_step : (t : ℕ) (p : User) (c : Stored) (d : List ℕ) (r : Regs) → IsAtWork p → step_of p.inner.regs c.core ≡ went r d →
    step t Done (in_store c p) ≡ in_store (record c { core = d }) (record p { inner = record p.inner { regs = r }; own = suc p.own })
work_step t p c d r work goes = sym (plain_step t p c d r work.works work.filled work.alone goes work.on)

-- one more instruction
pub gone_more : (n t : ℕ) (p : User) (c : Stored) (d : List ℕ) (s r : Regs) → IsAtWork p → step_of s c.core ≡ went r d →
    step t Done (in_store c (gone n s p)) ≡ in_store (record c { core = d }) (gone (suc n) r p)
gone_more n t p c d s r work goes =
    work_step t (gone n s p) c d r (work_on n s p work) goes
    ∙ (let e : suc (p.own + n) ≡ p.own + suc n = omega arith in ap (λ (k : ℕ). in_store (record c { core = d }) (record p { inner = record p.inner { regs = r }; own = k })) e)

-- none
pub gone_none : (p : User) (c : Stored) (d : List ℕ) (r : Regs) → many 0 p.inner.regs c.core ≡ went r d → in_store (record c { core = d }) (gone 0 r p) ≡ in_store c p
gone_none p c d r been =
    let e : p.own + 0 ≡ p.own = omega arith in
    λ j. in_store (record c { core = none_words p.inner.regs r c.core d been j }) (record p { inner = record p.inner { regs = none_regs p.inner.regs r c.core d been j }; own = e j })

-- what a session shows that did nothing
pub gone_still : (p : User) (c : List ℕ) → HaveGone 0 p p c c
gone_still p c =
    record {
      work = λ h. absurd (omega (arith, h));
      went = many_none p.inner.regs c;
      left = let e : p.own ≡ p.own + 0 = omega arith in ap (λ (k : ℕ). record p { own = k }) e;
    }
