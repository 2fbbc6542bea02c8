-- proof: what all users' directories show, and what each call does to it.
use Rattle.std.specs.Prelude.{◌≡◌, ◌≢◌, ℕ, zero, suc, ◌≤◌, Bool, List, [], ◌∷◌, Result, IfOk, IsErrOf}
use Rattle.faults.specs.Faults.{Rose}
use Rattle.ctss_types.specs.declared.file.FileBody.{FileBody}
use Rattle.ctss_types.specs.declared.file.CommonOp.{CommonOp}
use Rattle.ctss_types.specs.declared.file.Reply.{Reply}
use Rattle.ctss_types.specs.declared.fault.StepFault.{StepFault}
use Rattle.ctss_types.specs.declared.fault.StepFault.TheVariants.{Disk, NoMemory}
use Rattle.file_map.specs.Applied.{IsApplied}
use Rattle.file_model.specs.Commons.{ReplyFits}
use Rattle.file_model.specs.Files.{lasting}

-- each user's files and the common ones, as far as the disk tells them, and how many tracks they may take; how many users there are,
-- whether the disk tells its records, and how often it has failed
pub record DirectoriesState : Type 0 where
  pub own : ℕ → List FileBody
  pub may : ℕ → ℕ
  pub common : List FileBody
  pub common_may : ℕ
  pub count : ℕ
  pub tells : Bool
  pub faults : ℕ

-- there are the same users, who may take as many tracks as before, as the common files may
pub record KeepsUsers (old new : DirectoriesState) : Type 0 where
  pub may : (u : ℕ) → new.may u ≡ old.may u
  pub common : new.common_may ≡ old.common_may
  pub count : new.count ≡ old.count

-- what a call for one user leaves as it is
pub record LeavesRest (user : ℕ) (old new : DirectoriesState) : Type 0 where
  pub others : (u : ℕ) → 1 ≤ u → u ≢ user → new.own u ≡ old.own u
  pub common : new.common ≡ old.common
  pub tells : new.tells ≡ old.tells

-- a step of a user, which may fail at the disk; want of memory changes nothing
pub record ServesUser {T : Type 0} (user : ℕ) (result : Result T StepFault) (old new : DirectoriesState) : Type 0 where
  pub users : KeepsUsers old new
  pub rest : ¬ IsErrOf result Disk → LeavesRest user old new
  pub left : IsErrOf result NoMemory → new.own user ≡ old.own user
  pub faults : old.faults ≤ new.faults
  pub cause : IsErrOf result Disk → Rose old.faults new.faults

-- an operation on the common files, which may fail at the disk; want of memory changes nothing
pub record Shares (op : CommonOp) (result : Result Reply StepFault) (old new : DirectoriesState) : Type 0 where
  pub users : KeepsUsers old new
  pub done : IfOk result (λ reply. IsApplied old.tells old.common_may op reply old.common new.common)
  pub fits : IfOk result ReplyFits
  pub own : ¬ IsErrOf result Disk → (u : ℕ) → 1 ≤ u → new.own u ≡ old.own u
  pub tells : ¬ IsErrOf result Disk → new.tells ≡ old.tells
  pub left : IsErrOf result NoMemory → new.common ≡ old.common
  pub faults : old.faults ≤ new.faults
  pub cause : IsErrOf result Disk → Rose old.faults new.faults

-- a user's files of mode 0 go
pub record Drops (user : ℕ) (old new : DirectoriesState) : Type 0 where
  pub users : KeepsUsers old new
  pub rest : LeavesRest user old new
  pub mine : new.own user ≡ lasting (old.own user)
  pub faults : new.faults ≡ old.faults

-- the files of so many users, from number u on
abbrev pub lists_from : ℕ → ℕ → (ℕ → List FileBody) → List (List FileBody)
lists_from u zero own = []
lists_from u (suc n) own = own u ∷ lists_from (suc u) n own
