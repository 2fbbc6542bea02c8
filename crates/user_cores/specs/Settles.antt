-- proof: the cores of users after a step of one of them.
use Rattle.std.specs.Prelude.{◌≡◌, ◌≢◌, ℕ, ◌≤◌, ◌<◌, true, List, length}
use Rattle.time_sharing.specs.Machine.{Ending, Went, Stopped, Resized, Replaced, LoggedOut}
use Rattle.image_map.specs.Images.{size_of}
use Rattle.user_model.specs.Inner.{recut, zeros}
use Rattle.plan_model.specs.Plan.{places_after}
use Rattle.user_cores.specs.Backing.{Held, KeepsRules}

-- the size of one user, if any (0 for nobody), is so many blocks now, and all else of sizes and quotas stays
pub record IsResized (k n : ℕ) (had has : Held) : Type 0 where
  pub len : length has.sizes ≡ length had.sizes
  pub mine : 0 < k → k < length had.sizes → size_of has.sizes k ≡ n
  pub others : (u : ℕ) → 1 ≤ u → u ≢ k → size_of has.sizes u ≡ size_of had.sizes u
  pub rules : KeepsRules had has

-- the words of a user after a step of it that ended so and left it so many blocks
abbrev pub settled : Ending → ℕ → List ℕ → List ℕ
settled Went blocks core = core
settled Stopped blocks core = recut blocks core
settled Resized blocks core = recut blocks core
settled Replaced blocks core = zeros blocks
settled LoggedOut blocks core = recut blocks core

-- a user has as many blocks as its step left it
pub record IsSettled (e : Ending) (u n : ℕ) (had has : Held) : Type 0 where
  pub mine : had.tells ≡ true → has.stores u ≡ record (had.stores u) { core = settled e n (had.stores u).core }
  pub others : (w : ℕ) → w ≢ u → has.stores w ≡ had.stores w
  pub tells : has.tells ≡ had.tells
  pub places : has.places ≡ places_after e u n had.places
  pub sizes : IsResized u n had has
