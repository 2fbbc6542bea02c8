-- Steps until one that doesn't go on.
use Rattle.std.proofs.Common.{◌≡◌, ◌≢◌, ℕ, suc, ◌+◌, ◌-◌, ◌<◌, List, refl, sym, ◌∙◌, ap, arith}
use Rattle.cpu_regs.specs.declared.regs.Regs.{Regs}
use Rattle.cpu_step.specs.Results.{outcome}
use Rattle.cpu_step.specs.declared.Stepped.{Stepped}
use Rattle.cpu_step.specs.declared.Stepped.TheVariants.{Went, Halt, Entry, Illegal, Outside}
use Rattle.machine_model.specs.Step.{went}
use Rattle.machine_model.specs.Machine.{step_of}
use Rattle.machine_model.specs.Runs.{many, behind}
use Rattle.machine_model.proofs.Runs.{many_suc, many_stays}

rests : (end : Stepped) (r : Regs) (core : List ℕ) → end ≢ Went → behind (outcome end r core) ≡ outcome end r core
rests Went r core h = absurd (h refl)
rests Halt r core h = refl
rests (Entry w) r core h = refl
rests Illegal r core h = refl
rests (Outside a) r core h = refl

-- a step that doesn't go on is the last
pub stops : (n k : ℕ) (end : Stepped) (r s t : Regs) (core d e : List ℕ) → n < k → end ≢ Went → many n r core ≡ went s d → outcome end t e ≡ step_of s d
    → outcome end t e ≡ many k r core
stops n k end r s t core d e h other been last =
    let now : many (suc n) r core ≡ outcome end t e = many_suc n r core ∙ ap behind been ∙ sym last in
    let all : suc n + (k - suc n) ≡ k = omega arith in
    sym (many_stays (suc n) (k - suc n) r core (outcome end t e) now (rests end t e other)) ∙ ap (λ (m : ℕ). many m r core) all
