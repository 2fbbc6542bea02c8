-- proof: what lies behind the users' sessions, cores and directories together, and what each call does to it.
use Rattle.std.specs.Prelude.{◌≡◌, ◌≢◌, ℕ, ◌≤◌, ◌<◌, ◌+◌, ◌-◌, ◌*◌, ◌^◌, Bool, true, ◌&&◌, List, [], zero, suc, length, slice_set, Option, Result, IfOk, OnOk, OnErr, IsErrOf}
use Rattle.std.specs.Option.{is_some}
use Rattle.faults.specs.Faults.{Rose}
use Rattle.medium.specs.Medium.{CallList}
use Rattle.onion_swap.specs.declared.Plan.{Plan}
use Rattle.plan_model.specs.Loads.{Places, is_loaded, loaded, given_up, dumps, reads, clears}
use Rattle.image_map.specs.Images.{size_of}
use Rattle.image_map.specs.State.{ImageState, places_in}
use Rattle.user_model.specs.Inner.{Stored, blocks_of, recut, zeros}
use Rattle.user_model.specs.User.{hung}
use Rattle.user_session.specs.Stores.{stored, Over}
use Rattle.user_session.specs.Turns.{IsReplied}
use Rattle.ctss_types.specs.declared.file.CommonOp.{CommonOp}
use Rattle.ctss_types.specs.declared.file.FileBody.{FileBody}
use Rattle.ctss_types.specs.declared.fault.StepFault.{StepFault}
use Rattle.ctss_types.specs.declared.fault.StepFault.TheVariants.{Disk, NoMemory}
use Rattle.file_map.specs.Applied.{IsApplied}
use Rattle.user_model.specs.User.{User}
use Rattle.user_cores.specs.declared.backing.Made.{Made}
use Rattle.track_directories.specs.Directories.{DirectoriesState}
use Rattle.user_cores.specs.Usable.{words_in, window_in}
use Rattle.user_cores.specs.Swaps.{IsMade, IsCutOff}

pub record Held : Type 0 where
  -- the words of each user's program and its files, where drum and disk tell their records; of number 0 the common files
  pub stores : ℕ → Stored
  pub tells : Bool
  pub places : Places
  -- how many blocks each user has, and may have, behind those of number 0, which is nobody's; how many tracks it may have, and
  -- the common files; and how many users have directories
  pub sizes : List ℕ
  pub quotas : List ℕ
  pub tracks : ℕ → ℕ
  pub common : ℕ
  pub users : ℕ

-- what each user has, what a user whose blocks are all in core has there and in its directory, the calls of the drum where told, how many of
-- them failed, whether the disk tells its records, and how many of its calls failed
pub record BackState : Type 0 where
  pub held : Held
  pub window : ℕ → Stored
  pub calls : Option CallList
  pub faults : ℕ
  pub disk_tells : Bool
  pub disk_faults : ℕ

-- the words and files of each user, and the common files of number 0
abbrev pub stores_of : (ℕ → List ℕ) → (ℕ → List FileBody) → List FileBody → ℕ → Stored
stores_of words own common zero = stored [] common
stores_of words own common (suc u) = stored (words (suc u)) (own (suc u))

-- cores that are swapped with a drum, beside directories
abbrev pub back_of : ImageState → DirectoriesState → BackState
back_of s d =
    record {
      held = record {
        stores = stores_of (words_in s) d.own d.common;
        tells = is_some s.drum.contents && d.tells;
        places = places_in s;
        sizes = s.sizes;
        quotas = s.slots.quotas.items;
        tracks = d.may;
        common = d.common_may;
        users = d.count;
      };
      window = λ u. stored (window_in s u) (d.own u);
      calls = s.drum.calls;
      faults = s.drum.faults;
      disk_tells = d.tells;
      disk_faults = d.faults;
    }

abbrev pub size : BackState → ℕ → ℕ
size s user = size_of s.held.sizes user

-- all blocks of a user are in core
pub record IsInCore (user : ℕ) (s : BackState) : Type 0 where
  pub within : user < length s.held.sizes
  pub loaded : is_loaded s.held.places user (size s user) ≡ true

-- a step of a user's session can be done: its blocks are in core, which it has as many of as the session says, and its directory has the quota
-- of its account
pub record CanTurn (user : ℕ) (p : User) (s : BackState) : Type 0 where
  pub core : IsInCore user s
  pub size : size s user ≡ blocks_of p.inner
  pub directory : user ≤ s.held.users
  pub tracks : s.held.tracks user ≡ p.inner.account.tracks
  pub fits : p.own < 2 ^ 64 - 1

-- a load that is done
pub record Loaded (user : ℕ) (plan : Plan) (old new : BackState) : Type 0 where
  pub stores : (u : ℕ) → new.held.stores u ≡ old.held.stores u
  pub tells : new.held.tells ≡ old.held.tells
  pub places : new.held.places ≡ loaded old.held.places user (size old user)
  pub dumped : plan.dumped ≡ dumps old.held.places user (size old user)
  pub read : plan.read ≡ reads old.held.places user (size old user)
  pub fresh : plan.fresh ≡ clears old.held.places user (size old user)
  pub calls : IsMade old.calls new.calls plan.dumped plan.read

-- a load that the drum didn't do
pub record LoadFails (user : ℕ) (old new : BackState) : Type 0 where
  pub calls : IsCutOff old.calls new.calls (dumps old.held.places user (size old user) + reads old.held.places user (size old user))
  pub cause : Rose old.faults new.faults

-- how many blocks and tracks users and the common files may have stays, and how many users have directories
pub record KeepsRules (had has : Held) : Type 0 where
  pub quotas : has.quotas ≡ had.quotas
  pub common : has.common ≡ had.common
  pub tracks : (u : ℕ) → has.tracks u ≡ had.tracks u
  pub users : has.users ≡ had.users

-- a load of a user
pub record Loads (user : ℕ) {E : Type 0} (result : Result Plan E) (old new : BackState) : Type 0 where
  pub rules : KeepsRules old.held new.held
  pub sizes : new.held.sizes ≡ old.held.sizes
  pub faults : old.faults ≤ new.faults
  pub disk : new.disk_faults ≡ old.disk_faults
  pub done : IfOk result (λ plan. Loaded user plan old new)
  pub fails : OnErr result (LoadFails user old new)

-- what a call for one user leaves as it is, of all numbers from a lowest on
pub record LeavesRest (low user : ℕ) (old new : BackState) : Type 0 where
  pub rules : KeepsRules old.held new.held
  pub others : (u : ℕ) → low ≤ u → u ≢ user → new.held.stores u ≡ old.held.stores u
  pub tells : new.held.tells ≡ old.held.tells
  pub calls : new.calls ≡ old.calls
  pub faults : new.faults ≡ old.faults

-- a user's words become these, and it gets so many blocks
pub record Resizes (user blocks : ℕ) (old new : BackState) : Type 0 where
  pub rest : LeavesRest 0 user old new
  pub disk : new.disk_faults ≡ old.disk_faults
  pub mine : old.held.tells ≡ true → new.held.stores user ≡ record (old.held.stores user) { core = recut blocks (old.held.stores user).core }
  pub sizes : new.held.sizes ≡ slice_set old.held.sizes user blocks
  pub places : new.held.places ≡ given_up old.held.places user blocks

-- a user gets so many blocks of plus zeros in place of all that it has
pub record Replaces (user blocks : ℕ) (old new : BackState) : Type 0 where
  pub rest : LeavesRest 0 user old new
  pub disk : new.disk_faults ≡ old.disk_faults
  pub mine : old.held.tells ≡ true → new.held.stores user ≡ record (old.held.stores user) { core = zeros blocks }
  pub sizes : new.held.sizes ≡ slice_set old.held.sizes user blocks
  pub places : new.held.places ≡ given_up old.held.places user 0

-- a user whose session is over has no core any more, and the files that last
pub record HangsUp (user : ℕ) (old new : BackState) : Type 0 where
  pub rest : LeavesRest 0 user old new
  pub disk : new.disk_faults ≡ old.disk_faults
  pub mine : old.held.tells ≡ true → new.held.stores user ≡ hung (old.held.stores user)
  pub sizes : new.held.sizes ≡ slice_set old.held.sizes user 0
  pub places : new.held.places ≡ given_up old.held.places user 0

-- a user's session works in its blocks, which are all in core, and in its directory; all else stays from a lowest number on
pub record WorksIn (low user : ℕ) (old new : BackState) : Type 0 where
  pub rest : LeavesRest low user old new
  pub len : length (new.window user).core ≡ 256 * size old user
  pub was : old.held.tells ≡ true → old.held.stores user ≡ old.window user
  pub mine : old.held.tells ≡ true → new.held.stores user ≡ new.window user
  pub disk : old.held.tells ≡ true → old.disk_tells ≡ true
  pub disk_tells : new.disk_tells ≡ old.disk_tells
  pub sizes : new.held.sizes ≡ old.held.sizes
  pub places : new.held.places ≡ old.held.places

-- a step that made this operation on the common files, which replied so
pub record Shared (op : CommonOp) (made : Made) (user now : ℕ) (p q : User) (old new : BackState) : Type 0 where
  pub common : IsApplied old.disk_tells old.held.common op made.reply (old.held.stores 0).files (new.held.stores 0).files
  pub step : Over old.disk_tells (old.window user) (new.window user) (IsReplied made.step op made.reply now p q)

-- a step that memory lacked for: all that users have stays
pub record LeavesUsers (old new : BackState) : Type 0 where
  pub rules : KeepsRules old.held new.held
  pub stores : old.held.tells ≡ true → (u : ℕ) → 1 ≤ u → new.held.stores u ≡ old.held.stores u
  pub tells : new.held.tells ≡ old.held.tells
  pub sizes : new.held.sizes ≡ old.held.sizes
  pub places : new.held.places ≡ old.held.places
  pub calls : new.calls ≡ old.calls
  pub faults : new.faults ≡ old.faults

-- a step that the disk didn't do
pub record DiskFails (old new : BackState) : Type 0 where
  pub rules : KeepsRules old.held new.held
  pub sizes : new.held.sizes ≡ old.held.sizes
  pub places : new.held.places ≡ old.held.places
  pub calls : new.calls ≡ old.calls
  pub faults : new.faults ≡ old.faults
  pub cause : Rose old.disk_faults new.disk_faults

-- what a step of a user's session leaves; want of memory leaves the user's words and files
pub record HasTurned (user : ℕ) {T : Type 0} (result : Result T StepFault) (old new : BackState) : Type 0 where
  pub left : IsErrOf result NoMemory → new.window user ≡ old.window user
  pub worked : ¬ IsErrOf result Disk → WorksIn 0 user old new
  pub disk : old.disk_faults ≤ new.disk_faults
  pub fails : IsErrOf result Disk → DiskFails old new

-- what a step with an operation on the common files leaves, which may be made where memory lacked for the step
pub record HasShared (user : ℕ) {T : Type 0} (result : Result T StepFault) (old new : BackState) : Type 0 where
  pub left : IsErrOf result NoMemory → LeavesUsers old new
  pub worked : OnOk result (WorksIn 1 user old new)
  pub disk : old.disk_faults ≤ new.disk_faults
  pub fails : IsErrOf result Disk → DiskFails old new

-- what instructions of a user's program leave: its files stay, and the disk isn't called
pub record HasAdvanced (user : ℕ) (old new : BackState) : Type 0 where
  pub files : (new.window user).files ≡ (old.window user).files
  pub worked : WorksIn 0 user old new
  pub disk : new.disk_faults ≡ old.disk_faults

-- neither drum nor disk is called
pub record CallsNothing (old new : BackState) : Type 0 where
  pub calls : new.calls ≡ old.calls
  pub faults : new.faults ≡ old.faults
  pub disk : new.disk_faults ≡ old.disk_faults
