-- proof: what a call on a session may count on, and what it keeps beside what it does.
use Rattle.std.specs.Prelude.{◌≡◌, ℕ, ◌*◌, ◌-◌, ◌^◌, ◌<◌, true, false, List, length, None, OnErr}
use Rattle.std.specs.declared.result.Result.{Result}
use Rattle.ctss_types.specs.declared.fault.StepFault.{StepFault}
use Rattle.cpu_regs.specs.declared.port.MemoryPort as memory
use Rattle.file_map.specs.declared.port.FilePort as directory
use Rattle.user_model.specs.Programs.{at_break}
use Rattle.user_model.specs.Session.{works_in}
use Rattle.user_model.specs.User.{User}
use Rattle.user_session.specs.Stores.{Uses}

-- the user's program has these words, and the next step can be counted
pub record CanStep (p : User) (words : List ℕ) : Type 0 where
  pub size : length words ≡ 256 * p.inner.blocks
  pub fits : p.own < 2 ^ 64 - 1

-- these words can be the core of the user's program: as many as its blocks hold
abbrev pub IsCoreOf : User → List ℕ → Type 0
IsCoreOf p core = length core ≡ 256 * p.inner.blocks

-- the next step of a user is an instruction of a program that works
pub record IsAtInstruction (p : User) : Type 0 where
  pub on : p.on ≡ true
  pub works : works_in p.inner.state ≡ true
  pub filled : p.inner.fill ≡ None
  pub unbroken : at_break p.inner ≡ false

-- what each call keeps of a user: the account, and all of it where the call fails
pub record KeepsUser {T E : Type 0} (result : Result T E) (old new : User) : Type 0 where
  pub account : new.inner.account ≡ old.inner.account
  pub err : OnErr result (new ≡ old)

-- what each call keeps of a core: what the port stands over, and the words where the call fails
module _ {M : Type 0} (m : memory.Ghosts M) where
  pub record KeepsCore {T E : Type 0} (result : Result T E) (old new : M) : Type 0 where
    pub err : OnErr result (m.words new ≡ m.words old)
    pub keeps : m.Keeps old new

-- a directory that can be used, with the quota of the user's account
module _ {P : Type 0} (g : directory.Ghosts P) where
  pub record IsDirectoryOf (p : User) (files : P) : Type 0 where
    pub usable : g.Usable files
    pub quota : g.quota files ≡ p.inner.account.tracks

-- what a call keeps of a user, a core and a directory
module _ {M P : Type 0} (m : memory.Ghosts M) (g : directory.Ghosts P) where
  pub record Leaves {T : Type 0} (result : Result T StepFault) (old new : User) (core core' : M) (files files' : P) : Type 0 where
    pub account : new.inner.account ≡ old.inner.account
    pub err : OnErr result (new ≡ old)
    pub err_core : OnErr result (m.words core' ≡ m.words core)
    pub keeps : m.Keeps core core'
    pub uses : Uses g result files files'
