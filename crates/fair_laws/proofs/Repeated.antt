-- A step repeated while a test holds: what it is as long as the test holds, and what it keeps.
use Rattle.std.proofs.Common.{◌≡◌, ℕ, zero, suc, Bool, true, false, refl}
use Rattle.time_sharing.specs.Repeat.{repeat}

module _ {S : Type 0} (running : S → Bool) (step : S → S) where
  -- a number of steps, whatever the test says
  abbrev pub plain : ℕ → S → S
  plain zero s = s
  plain (suc n) s = plain n (step s)

  -- before each of a number of steps the test holds
  abbrev pub RunsOn : ℕ → S → Type 0
  RunsOn zero s = Unit {0}
  RunsOn (suc n) s = (running s ≡ true) × RunsOn n (step s)

  pub repeat-plain : (n : ℕ) (s : S) → RunsOn n s → repeat running step n s ≡ plain n s
  repeat-plain zero s e = refl
  repeat-plain (suc n) s e = rw (e.0, repeat) (repeat-plain n (step s) e.1)

  -- what each step keeps, the repeated one does
  pub repeat-keeps : (Q : S → Type 0) → ((s : S) → Q s → Q (step s)) → (n : ℕ) (s : S) → Q s → Q (repeat running step n s)
  repeat-keeps Q keeps zero s h = h
  repeat-keeps Q keeps (suc n) s h = by_test (running s) (repeat-keeps Q keeps n (step s) (keeps s h))
    where
      by_test : (b : Bool) → Q (repeat running step n (step s)) → Q (elim b [ true ↦ repeat running step n (step s) | false ↦ s ])
      by_test true k = k
      by_test false k = h
