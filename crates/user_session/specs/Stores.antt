-- proof: a user's session beside what lies outside it: the words of its program behind one port, its files behind another.
use Rattle.std.specs.Prelude.{◌≡◌, ℕ, Bool, true, List, Some, IsErrOf}
use Rattle.std.specs.declared.result.Result.{Result}
use Rattle.faults.specs.Faults.{Rose}
use Rattle.ctss_types.specs.declared.file.FileBody.{FileBody}
use Rattle.ctss_types.specs.declared.fault.StepFault.{StepFault}
use Rattle.ctss_types.specs.declared.fault.StepFault.TheVariants.{Disk, NoMemory}
use Rattle.file_map.specs.Known.{known}
use Rattle.file_map.specs.declared.port.FilePort.{Ghosts}
use Rattle.ctss_types.specs.declared.file.CommonOp.{CommonOp}
use Rattle.user_model.specs.Inner.{Stored}
use Rattle.user_model.specs.User.{User, can_step, asks_common, in_store}

abbrev pub stored : List ℕ → List FileBody → Stored
stored core files = record { core = core; files = files }

-- Something holds of a store before and one after, with these words, and with some files that are known as these.
pub record Over (tells : Bool) (old new : Stored) (R : Stored → Stored → Type 0) : Type 0 where
  pub had : List FileBody
  pub has : List FileBody
  pub was : known tells had ≡ old.files
  pub now : known tells has ≡ new.files
  pub does : R (stored old.core had) (stored new.core has)

-- something holds of some files that are known as these
abbrev pub OfSome : Bool → List FileBody → (List FileBody → Type 0) → Type 0
OfSome tells files Q = (fs : List FileBody) × (known tells fs ≡ files) × Q fs

-- the next step of a user could be done and is to make this common operation
pub record IsToMake (tells : Bool) (store : Stored) (op : CommonOp) (p : User) : Type 0 where
  pub had : List FileBody
  pub was : known tells had ≡ store.files
  pub can : can_step (in_store (stored store.core had) p) ≡ true
  pub makes : asks_common (in_store (stored store.core had) p) ≡ Some op

module _ {P : Type 0} (g : Ghosts P) where
  -- what a call leaves of a directory: want of memory changes nothing of it, and unless the disk failed it works on; it stands over the same
  -- objects
  pub record Uses {T : Type 0} (result : Result T StepFault) (old new : P) : Type 0 where
    pub left : IsErrOf result NoMemory → g.files new ≡ g.files old
    pub telling : ¬ IsErrOf result Disk → g.tells new ≡ g.tells old
    pub usable : ¬ IsErrOf result Disk → g.Usable new
    pub keeps : g.Keeps old new
    pub cause : IsErrOf result Disk → Rose (g.faults old) (g.faults new)

  -- and a call that only reads leaves the files
  pub record Reads {T : Type 0} (result : Result T StepFault) (old new : P) : Type 0 where
    pub uses : Uses result old new
    pub files : ¬ IsErrOf result Disk → g.files new ≡ g.files old
