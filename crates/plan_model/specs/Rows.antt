-- claim: worked rows of levels, queues and loads.
use Rattle.std.specs.Prelude.{◌≡◌, ℕ, zero, suc, ◌*◌, Option, Some, None, Bool, true, false}
use Rattle.ctss_types.specs.declared.session.Waiting.{Waiting}
use Rattle.plan_model.specs.Levels.{Levels, level_of_words, empty_levels, chosen, entered, charged, dropped, woken, preempted, riser, goes_up, risen, sum_of_levels}
use Rattle.plan_model.specs.Loads.{Places, no_places, loaded, given_up, dumps, reads, clears, base_for, is_moved, is_in, is_loaded}

-- the levels of programs of 1, 4, 28 and 128 blocks with 1024 words a level, and of 128 blocks with one
pub record RowOfLevels : Type 0 where
  pub one : level_of_words 1024 256 ≡ 0
  pub four : level_of_words 1024 1024 ≡ 1
  pub some : level_of_words 1024 (28 * 256) ≡ 3
  pub all : level_of_words 1024 (128 * 256) ≡ 5
  pub most : level_of_words 1 (128 * 256) ≡ 8

-- at this tick
abbrev pub charged_times : ℕ → ℕ → (now : ℕ) → Levels → Levels
charged_times zero u now q = q
charged_times (suc n) u now q = charged_times n u now (charged u now q)

-- chosen at this level, with so much time left, and waiting since then
abbrev pub at_level : ℕ → ℕ → ℕ → (since : ℕ) → Option (ℕ × Waiting)
at_level l u left since = let w : Waiting = record { user = u; left = left; since = since } in Some (l, w)

abbrev pub one_user : Levels
one_user = entered 28 1 0 (empty_levels 1024 100 0)

-- user 1 with 28 blocks is served for 150 ticks, then user 2 with 4 blocks comes and goes
pub record RowOfQueues : Type 0 where
  pub first : chosen one_user ≡ at_level 3 1 800 0
  pub second : chosen (entered 4 2 150 (charged_times 150 1 150 one_user)) ≡ at_level 1 2 200 150
  pub again : chosen (dropped 2 (entered 4 2 150 (charged_times 150 1 150 one_user))) ≡ at_level 3 1 650 0
  -- at its last tick a user sinks, with the next level's full time
  pub sunk : chosen (charged_times 800 1 800 one_user) ≡ at_level 4 1 1600 800
  pub woken : chosen (woken 4 1 150 one_user) ≡ at_level 3 1 800 0
  -- with age 0 nobody rises
  pub never : riser None 1000000 one_user ≡ None

-- user 1 with 28 blocks and user 2 with 4 come, where a user rises after 500 ticks
abbrev pub two_users : Levels
two_users = entered 4 2 0 (entered 28 1 0 (empty_levels 1024 100 500))

pub record RowOfRises : Type 0 where
  pub early : riser (Some 2) 499 two_users ≡ None
  pub due : goes_up (riser (Some 2) 500 two_users) ≡ Some (1, 2)
  pub once : riser (Some 2) 500 (risen 1 2 500 two_users) ≡ None
  pub alone : chosen (dropped 2 (risen 1 2 500 two_users)) ≡ at_level 2 1 400 500
  -- of two the one of the lower level rises first
  pub lower : goes_up (riser None 500 two_users) ≡ Some (2, 0)
  -- a preempted user waits anew
  pub preempted : riser (Some 2) 500 (preempted 1 1 two_users) ≡ None
  -- at level 0 nobody rises
  pub least : riser None 5000 (dropped 1 (risen 2 0 500 two_users)) ≡ None
  pub sums : (sum_of_levels two_users ≡ 4) × (sum_of_levels (risen 1 2 500 two_users) ≡ 3)

-- how many blocks a load dumps, reads and clears, at which base, and whether the user's own are dumped before
pub record IsLoad (p : Places) (u n dumped read fresh base : ℕ) (moved : Bool) : Type 0 where
  pub dumps_are : dumps p u n ≡ dumped
  pub reads_are : reads p u n ≡ read
  pub clears_are : clears p u n ≡ fresh
  pub at : base_for p u n ≡ base
  pub is_moved_is : is_moved p u n ≡ moved

abbrev pub one_load : Places
one_load = loaded no_places 1 64

abbrev pub two_loads : Places
two_loads = loaded one_load 2 64

abbrev pub three_loads : Places
three_loads = loaded two_loads 3 32

abbrev pub four_loads : Places
four_loads = loaded three_loads 1 64

-- users of 64, 64 and 32 blocks are loaded in turn, then the first and the third again
pub record RowOfLoads : Type 0 where
  pub first : IsLoad no_places 1 64 0 0 64 0 false
  pub second : IsLoad one_load 2 64 0 0 64 64 false
  pub third : IsLoad two_loads 3 32 32 0 32 0 false
  -- blocks 32 to 63 of user 1 are still in core, and no others
  pub left : (is_in three_loads 1 31 ≡ false) × (is_in three_loads 1 32 ≡ true) × (is_in three_loads 1 63 ≡ true)
  pub fourth : IsLoad three_loads 1 64 32 32 0 0 false
  pub back : is_loaded four_loads 1 64 ≡ true
  pub gone : is_loaded three_loads 1 64 ≡ false
  pub fifth : IsLoad four_loads 3 32 32 32 0 0 false

-- one shrinks and grows, with another behind what it gave up
abbrev pub beside : Places
beside = loaded (given_up (loaded no_places 1 4) 1 2) 2 4

-- one of 40 blocks, and behind it one of 60 that grows to 100
abbrev pub grown : Places
grown = loaded (loaded no_places 1 40) 2 60

pub record RowOfMoves : Type 0 where
  pub behind : IsLoad (given_up (loaded no_places 1 4) 1 2) 2 4 0 0 4 2 false
  pub over : IsLoad beside 1 4 2 0 2 0 false
  pub moved : IsLoad grown 2 100 72 60 40 28 true
  pub left : (is_in (loaded grown 2 100) 1 27 ≡ true) × (is_in (loaded grown 2 100) 1 28 ≡ false)
