-- claim: where a program is to stop.
use Rattle.std.specs.Prelude.{ℕ, ◌==◌, Bool, false, not, ◌&&◌, nat_le, List, [], ◌∷◌, ◌++◌, length, if◌then◌else◌}
use Rattle.std.specs.List.{list_any}

-- the breakpoints, and whether the program has done an own step since it was let go
pub record Stops : Type 0 where
  pub breaks : List ℕ
  pub stepped : Bool

-- no breakpoint
abbrev pub no_stops : Stops
no_stops = record { breaks = []; stepped = false }

abbrev pub is_break : List ℕ → ℕ → Bool
is_break breaks a = list_any (λ b. b == a) breaks

-- eight others are set
abbrev pub is_full : List ℕ → ℕ → Bool
is_full breaks a = not (is_break breaks a) && nat_le 8 (length breaks)

-- one that is set already stays
abbrev pub with_break : List ℕ → ℕ → List ℕ
with_break breaks a = if is_break breaks a then breaks else breaks ++ a ∷ []

-- one that isn't set changes nothing
abbrev pub without_break : List ℕ → ℕ → List ℕ
without_break [] a = []
without_break (b ∷ bs) a = if b == a then bs else b ∷ without_break bs a

-- a breakpoint stops a program that has done an own step
abbrev pub meets : Stops → ℕ → Bool
meets s ic = s.stepped && is_break s.breaks ic
