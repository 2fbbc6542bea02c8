-- Many steps that all went on.
use Rattle.std.proofs.Common.{◌≡◌, ℕ, zero, suc, ◌+◌, List, refl, sym, ap, ◌∙◌, add-one, add-zero, arith}
use Rattle.cpu_regs.specs.declared.regs.Regs.{Regs}
use Rattle.machine_model.specs.Step.{Step, went, halt, entry, illegal, outside}
use Rattle.machine_model.specs.Machine.{step_of}
use Rattle.machine_model.specs.Runs.{behind, many}

pub many_none : (r : Regs) (core : List ℕ) → many 0 r core ≡ went r core
unfolding many
many_none r core = refl

pub many_suc : (n : ℕ) (r : Regs) (core : List ℕ) → many (suc n) r core ≡ behind (many n r core)
unfolding many
many_suc n r core = refl

-- one more
pub many_more : (n : ℕ) (r s t : Regs) (core c d : List ℕ) → many n r core ≡ went s c → step_of s c ≡ went t d → many (n + 1) r core ≡ went t d
many_more n r s t core c d been goes = ap (λ (k : ℕ). many k r core) (add-one n) ∙ many_suc n r core ∙ ap behind been ∙ goes

-- some, and then more
pub many_sum : (n m : ℕ) (r s : Regs) (core d : List ℕ) → many n r core ≡ went s d → many (n + m) r core ≡ many m s d
many_sum n zero r s core d been = ap (λ (k : ℕ). many k r core) (add-zero n) ∙ been ∙ sym (many_none s d)
many_sum n (suc m) r s core d been =
    let more : n + suc m ≡ suc (n + m) = omega arith in
    ap (λ (k : ℕ). many k r core) more ∙ many_suc (n + m) r core ∙ ap behind (many_sum n m r s core d been) ∙ sym (many_suc m s d)

-- what doesn't go on stays
pub many_stays : (n m : ℕ) (r : Regs) (core : List ℕ) (last : Step) → many n r core ≡ last → behind last ≡ last → many (n + m) r core ≡ last
many_stays n zero r core last been stays = ap (λ (k : ℕ). many k r core) (add-zero n) ∙ been
many_stays n (suc m) r core last been stays =
    let more : n + suc m ≡ suc (n + m) = omega arith in
    ap (λ (k : ℕ). many k r core) more ∙ many_suc (n + m) r core ∙ ap behind (many_stays n m r core last been stays) ∙ stays

-- all but the last
pub record Before (n : ℕ) (r t : Regs) (core d : List ℕ) : Type 0 where
  pub regs : Regs
  pub words : List ℕ
  pub been : many n r core ≡ went regs words
  pub goes : step_of regs words ≡ went t d

pub many_less : (n : ℕ) (r t : Regs) (core d : List ℕ) → many (suc n) r core ≡ went t d → Before n r t core d
many_less n r t core d all = by_step (many n r core) refl (sym (many_suc n r core) ∙ all)
  where
    by_step : (x : Step) → many n r core ≡ x → behind x ≡ went t d → Before n r t core d
    by_step (went s c) is last = record { regs = s; words = c; been = is; goes = last }
    by_step (halt s c) is last = cc
    by_step (entry w) is last = cc
    by_step illegal is last = cc
    by_step (outside a) is last = cc

abbrev regs_in : Step → Regs → Regs
regs_in (went s c) r = s
regs_in (halt s c) r = r
regs_in (entry w) r = r
regs_in illegal r = r
regs_in (outside a) r = r

abbrev words_in : Step → List ℕ → List ℕ
words_in (went s c) d = c
words_in (halt s c) d = d
words_in (entry w) d = d
words_in illegal d = d
words_in (outside a) d = d

-- no step
pub none_regs : (r t : Regs) (core d : List ℕ) → many 0 r core ≡ went t d → t ≡ r
none_regs r t core d h = ap (λ (s : Step). regs_in s r) (sym h ∙ many_none r core)

pub none_words : (r t : Regs) (core d : List ℕ) → many 0 r core ≡ went t d → d ≡ core
none_words r t core d h = ap (λ (s : Step). words_in s core) (sym h ∙ many_none r core)
