-- What a step changed, as it is added part by part.
use Rattle.std.proofs.Common.{◌≡◌, ℕ, Bool, true, false, List, ◌++◌, codes, ap, append_assoc, true≢false}
use Rattle.program_trace.specs.Registers.{changed}

-- a register that isn't what it was: its name, and then its value
pub change_of : (same : Bool) (name value : List ℕ) → same ≡ false → (codes "  " ++ (name ++ codes " ")) ++ value ≡ changed same name value
change_of true name value is = absurd (true≢false is)
change_of false name value is = ap (λ (l : List ℕ). codes "  " ++ l) (append_assoc name (codes " ") value)
