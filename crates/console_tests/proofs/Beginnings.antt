-- What is promised of an Ok is so of this one, which is no fault.
use Rattle.std.proofs.Common.{◌≡◌, Ok, Err, subst}
use Rattle.std.specs.Prelude.{OnOk, IsErrOf}
use Rattle.ctss_types.specs.declared.fault.StepFault.{StepFault}
use Rattle.ctss_types.specs.declared.fault.StepFault.TheVariants.{Disk}
use Rattle.std.specs.declared.result.Result.{Result}

pub of_ok : {T E : Type 0} (r : Result T E) (x : T) (P : Type 0) → r ≡ Ok x → OnOk r P → P
of_ok r x P is h = subst (λ (q : Result _ _). OnOk q P) is h

-- and no fault of the disk
pub not_disk : {T : Type 0} (r : Result T StepFault) (x : T) → r ≡ Ok x → IsErrOf r Disk → ⊥
not_disk (Ok y) x is e = cc
not_disk (Err f) x is e = cc
