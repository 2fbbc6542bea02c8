-- The lines of cards at fault.
use Rattle.std.proofs.Common.{◌≡◌, ℕ, List, [], ◌∷◌, ◌++◌, refl, ap}
use Rattle.std.specs.List.{flat_map}
use Rattle.fap_assemble.specs.declared.fault.CardFault.{CardFault}
use Rattle.fap_assemble.specs.Follows.{numbered}
use Rattle.text_model.specs.Words.{faults_text}
use Rattle.ctss_modes.specs.Faults.{line_of_fault}

pub faults_joined : (fs : List CardFault) → flat_map line_of_fault fs ≡ faults_text (numbered fs)
faults_joined [] = refl
faults_joined (f ∷ fs) = ap (λ (l : List ℕ). line_of_fault f ++ l) (faults_joined fs)
