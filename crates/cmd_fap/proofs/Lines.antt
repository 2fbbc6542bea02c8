-- Lines of faults by their numbers.
use Rattle.std.proofs.Common.{◌≡◌, List, [], ◌∷◌, ℕ, map, refl, ap}
use Rattle.fap_assemble.specs.declared.fault.CardFault.{CardFault}
use Rattle.fap_assemble.specs.Follows.{numbered}
use Rattle.user_model.specs.Texts.{fault_text}
use Rattle.cmd_fap.specs.Assemblies.{line_of_fault}

pub numbered_lines : (faults : List CardFault) → map line_of_fault faults ≡ map fault_text (numbered faults)
numbered_lines [] = refl
numbered_lines (f ∷ faults) = ap (λ (lines : List (List ℕ)). line_of_fault f ∷ lines) (numbered_lines faults)
