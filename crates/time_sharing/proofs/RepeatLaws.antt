-- More turns than the measure make no difference.
use Rattle.std.proofs.Common.{◌≡◌, ℕ, zero, suc, ◌≤◌, Bool, true, false, refl, sym, ap, ◌∙◌, arith}
use Rattle.std.proofs.lemmas.Bool.{cases_Bool}
use Rattle.std.proofs.Common.{inl, inr}
use Rattle.time_sharing.specs.Repeat.{repeat, Falls}

module _ {S : Type 0} (running : S → Bool) (step : S → S) (measure : S → ℕ) (falls : Falls running step measure) where
  pub repeat-done : (n : ℕ) (s : S) → running s ≡ false → repeat running step n s ≡ s
  repeat-done zero s e = refl
  repeat-done (suc n) s e = rw (e, repeat) refl

  pub repeat-suc : (n : ℕ) (s : S) → running s ≡ true → repeat running step (suc n) s ≡ repeat running step n (step s)
  repeat-suc n s e = rw (e, repeat) refl

  pub repeat-enough : (n k : ℕ) (s : S) → measure s ≤ n → measure s ≤ k → repeat running step n s ≡ repeat running step k s
  repeat-enough zero k s a b = elim (cases_Bool (running s)) [ inl e ↦ absurd (omega (arith, falls s e)) | inr e ↦ sym (repeat-done k s e) ]
  repeat-enough (suc n) zero s a b = elim (cases_Bool (running s)) [ inl e ↦ absurd (omega (arith, falls s e)) | inr e ↦ repeat-done (suc n) s e ]
  repeat-enough (suc n) (suc k) s a b =
      elim (cases_Bool (running s)) [
        | inl e ↦ repeat-suc n s e ∙ repeat-enough n k (step s) (omega (arith, falls s e)) (omega (arith, falls s e)) ∙ sym (repeat-suc k s e)
        | inr e ↦ repeat-done (suc n) s e ∙ sym (repeat-done (suc k) s e)
      ]

  -- the two laws by which the whole run is used
  pub whole-step : (s : S) → running s ≡ true → repeat running step (measure (step s)) (step s) ≡ repeat running step (measure s) s
  whole-step s e =
      repeat-enough (measure (step s)) (measure s) (step s) (omega arith) (omega (arith, falls s e))
      ∙ sym (repeat-suc (measure s) s e)
      ∙ repeat-enough (suc (measure s)) (measure s) s (omega arith) (omega arith)

  pub whole-done : (s : S) → running s ≡ false → repeat running step (measure s) s ≡ s
  whole-done s e = repeat-done (measure s) s e

  -- a step at the end
  pub repeat-last : (n : ℕ) (s : S) → running (repeat running step n s) ≡ true → repeat running step (suc n) s ≡ step (repeat running step n s)
  repeat-last zero s e = repeat-suc zero s e
  repeat-last (suc n) s e =
      elim (cases_Bool (running s)) [
        | inl up ↦ repeat-suc (suc n) s up ∙ repeat-last n (step s) (ap running (sym (repeat-suc n s up)) ∙ e) ∙ ap step (sym (repeat-suc n s up))
        | inr down ↦ let f = ap running (repeat-done (suc n) s down) in cc (e, f, down)
      ]
