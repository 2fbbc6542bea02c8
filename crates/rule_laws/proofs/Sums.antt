-- Sums modulo 2^15 of what moves with a base.
use Rattle.std.proofs.Common.{◌≡◌, ℕ, zero, suc, ◌+◌, ◌-◌, ◌*◌, ◌%◌, ◌^◌, ◌<◌, ◌≤◌, Bool, true, false, refl, sym, ◌∙◌, arith}
use Rattle.std.proofs.lemmas.Nat.{mul-mod_second}
use Rattle.fap_model.specs.Places.{with_term}

-- a value, its weight, and what its externs are worth: where it comes to lie
abbrev pub moved_to : (base value weight extern : ℕ) → ℕ
moved_to base value weight extern = (value + base * weight + extern) % 2 ^ 15

moved_step : (b s sw se d dw de db : ℕ) → db % 2 ^ 15 ≡ (d + b * dw + de) % 2 ^ 15
    → (moved_to b s sw se + db) % 2 ^ 15 ≡ moved_to b ((s + d) % 2 ^ 15) ((sw + dw) % 2 ^ 15) ((se + de) % 2 ^ 15)
moved_step b s sw se d dw de db h =
    let e : (b * ((sw + dw) % 2 ^ 15)) % 2 ^ 15 ≡ (b * (sw + dw)) % 2 ^ 15 = mul-mod_second b (sw + dw) (2 ^ 15) in
    omega (arith, h, e)

-- what is subtracted: its complement moves with the complement of its weight
light_complement : (b v e : ℕ) → v < 2 ^ 15 → e < 2 ^ 15
    → (2 ^ 15 - moved_to b v 0 e) % 2 ^ 15 ≡ ((2 ^ 15 - v) + b * (2 ^ 15 - 0) + (2 ^ 15 - e)) % 2 ^ 15
light_complement b v e h k = omega (arith, h, k)

heavy_complement : (b v e : ℕ) → v < 2 ^ 15 → e < 2 ^ 15
    → (2 ^ 15 - moved_to b v 1 e) % 2 ^ 15 ≡ ((2 ^ 15 - v) + b * (2 ^ 15 - 1) + (2 ^ 15 - e)) % 2 ^ 15
heavy_complement b v e h k = omega (arith, h, k)

complement : (b v w e : ℕ) → v < 2 ^ 15 → w ≤ 1 → e < 2 ^ 15
    → (2 ^ 15 - moved_to b v w e) % 2 ^ 15 ≡ ((2 ^ 15 - v) + b * (2 ^ 15 - w) + (2 ^ 15 - e)) % 2 ^ 15
complement b v zero e h k l = light_complement b v e h l
complement b v (suc zero) e h k l = heavy_complement b v e h l
complement b v (suc (suc w)) e h k l = absurd (omega (arith, k))

as_sum : (a b : ℕ) → b ≤ 2 ^ 15 → (a + 2 ^ 15 - b) % 2 ^ 15 ≡ (a + (2 ^ 15 - b)) % 2 ^ 15
as_sum a b h = omega (arith, h)

below : (b v w e : ℕ) → moved_to b v w e ≤ 2 ^ 15
below b v w e = omega arith

weaker : (v : ℕ) → v < 2 ^ 15 → v ≤ 2 ^ 15
weaker v h = omega (arith, h)

lighter : (w : ℕ) → w ≤ 1 → w ≤ 2 ^ 15
lighter w h = omega (arith, h)

same_sum : (b v v2 w w2 e e2 : ℕ) → v ≡ v2 → w ≡ w2 → e ≡ e2 → moved_to b v w e ≡ moved_to b v2 w2 e2
same_sum b v v2 w w2 e e2 h k l = rw (h, k, l) refl

-- a term more
pub term_moved : (b s sw se : ℕ) (minus : Bool) (v w e : ℕ) → v < 2 ^ 15 → w ≤ 1 → e < 2 ^ 15
    → with_term (moved_to b s sw se) minus (moved_to b v w e) ≡ moved_to b (with_term s minus v) (with_term sw minus w) (with_term se minus e)
term_moved b s sw se false v w e h k l = moved_step b s sw se v w e (moved_to b v w e) (omega arith)
term_moved b s sw se true v w e h k l =
    as_sum (moved_to b s sw se) (moved_to b v w e) (below b v w e)
    ∙ moved_step b s sw se (2 ^ 15 - v) (2 ^ 15 - w) (2 ^ 15 - e) (2 ^ 15 - moved_to b v w e) (complement b v w e h k l)
    ∙ sym (same_sum b _ _ _ _ _ _ (as_sum s v (weaker v h)) (as_sum sw w (lighter w k)) (as_sum se e (weaker e l)))
