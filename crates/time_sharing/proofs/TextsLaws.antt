-- Watching changes nothing of the machine, and no text is taken back.
use Rattle.std.proofs.Common.{◌≡◌, ℕ, zero, suc, Bool, true, false, nat_lt, refl}
use Rattle.time_sharing.specs.Machine.{Machine}
use Rattle.time_sharing.specs.System.{SystemState, World, next}
use Rattle.time_sharing.specs.Repeat.{repeat}
use Rattle.time_sharing.specs.Record.{clock_is_below, iterate, run_to, measure}
use Rattle.time_sharing.specs.Texts.{Watched, next_watched, watched_to}

module _ {S P F : Type 0} (m : Machine S) (w : World S P F) where
  goes_along : (limit n : ℕ) (x : Watched S P F) →
      (repeat (λ (y : Watched S P F). clock_is_below m w limit y.system) (next_watched m w limit) n x).system ≡ iterate m w limit n x.system
  goes_along limit zero x = refl
  goes_along limit (suc n) x = by_test (nat_lt x.system.clock limit) (goes_along limit n (next_watched m w limit x))
    where
      by_test : (b : Bool) →
          (repeat (λ (y : Watched S P F). clock_is_below m w limit y.system) (next_watched m w limit) n (next_watched m w limit x)).system ≡ iterate m w limit n (next m w limit x.system) →
          (elim b as (λ v. Watched S P F) [ true ↦ repeat (λ (y : Watched S P F). clock_is_below m w limit y.system) (next_watched m w limit) n (next_watched m w limit x) | false ↦ x ]).system
          ≡ (elim b as (λ v. SystemState S P F) [ true ↦ repeat (clock_is_below m w limit) (next m w limit) n (next m w limit x.system) | false ↦ x.system ])
      by_test true ih = ih
      by_test false ih = refl

  pub watched : (limit : ℕ) (x : Watched S P F) → (watched_to m w limit x).system ≡ run_to m w limit x.system
  watched limit x = goes_along limit (measure m w limit x.system) x
