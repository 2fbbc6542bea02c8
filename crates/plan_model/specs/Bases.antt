-- proof: what the base of a load is among the places that it could be.
use Rattle.std.specs.Prelude.{◌≡◌, ℕ, ◌-◌, ◌<◌, ◌≤◌, false}
use Rattle.plan_model.specs.Loads.{Places, others_from, stays, base_for}

-- b is the first of the numbers 0 to m at which f is least
pub record IsFirstLeast (m : ℕ) (f : ℕ → ℕ) (b : ℕ) : Type 0 where
  pub within : b ≤ m
  pub least : (c : ℕ) → c ≤ m → f b ≤ f c
  pub first : (c : ℕ) → c < b → f b < f c

-- where a user doesn't stay, its base is the first from which its blocks end within core and others own the fewest places
abbrev pub BaseIsLeast : Type 0
BaseIsLeast = (p : Places) (u n : ℕ) → stays p u n ≡ false → IsFirstLeast (128 - n) (others_from p.owner u n) (base_for p u n)
