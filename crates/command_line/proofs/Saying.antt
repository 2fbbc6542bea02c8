-- What is said piece by piece.
use Rattle.std.proofs.Common.{◌≡◌, ℕ, ◌≤◌, List, ◌++◌, Option, None, Some, Ok, Err, refl, ap, ◌∙◌, append_assoc, arith, ◌⊎◌, inl, inr}
use Rattle.std.specs.Prelude.{OnOk, OnErr}
use Rattle.std.specs.declared.result.Result.{Result}
use Rattle.faults.specs.Faults.{Rose}
use Rattle.ctss_io.specs.Outside.{after}
use Rattle.ctss_io.specs.declared.whole.WriteFault.{WriteFault}
use Rattle.command_line.specs.Said.{Says}

after_both : (held : Option (List ℕ)) (xs ys : List ℕ) → after (after held xs) ys ≡ after held (xs ++ ys)
after_both None xs ys = refl
after_both (Some hs) xs ys = ap (λ (l : List ℕ). Some l) (append_assoc hs xs ys)

rose_before : (was mid now : ℕ) → Rose was mid → mid ≤ now → Rose was now
rose_before was mid now rose up = omega (arith, rose, up)

rose_behind : (was mid now : ℕ) → was ≤ mid → Rose mid now → Rose was now
rose_behind was mid now up rose = omega (arith, up, rose)

up_to : (was mid now : ℕ) → was ≤ mid → mid ≤ now → was ≤ now
up_to was mid now one two = omega (arith, one, two)

-- a text that was written whole, or whose put failed
pub says : (text : List ℕ) (held has : Option (List ℕ)) (faults now : ℕ) (result : Result Unit WriteFault)
    → OnOk result (has ≡ after held text) → OnErr result (Rose faults now) → faults ≤ now → Says text held has faults now
says text held has faults now (Ok x) whole rose up = record { whole = inl whole; faults_grow = up }
says text held has faults now (Err e) whole rose up = record { whole = inr rose; faults_grow = up }

-- two texts, one after the other
pub says_more : (a b : List ℕ) (held mid has : Option (List ℕ)) (faults then now : ℕ)
    → Says a held mid faults then → Says b mid has then now → Says (a ++ b) held has faults now
says_more a b held mid has faults then now one two =
    record { whole = both one.whole two.whole; faults_grow = up_to faults then now one.faults_grow two.faults_grow }
  where
    both : (mid ≡ after held a) ⊎ Rose faults then → (has ≡ after mid b) ⊎ Rose then now → (has ≡ after held (a ++ b)) ⊎ Rose faults now
    both (inr rose) second = inr (rose_before faults then now rose two.faults_grow)
    both (inl whole) (inr rose) = inr (rose_behind faults then now one.faults_grow rose)
    both (inl whole) (inl more) = inl (more ∙ ap (λ (x : Option (List ℕ)). after x b) whole ∙ after_both held a b)
