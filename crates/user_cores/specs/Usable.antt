-- proof: cores that are swapped with a drum: what stays true of them, and what each user has there.
use Rattle.std.specs.Prelude.{◌≡◌, ℕ, ◌≤◌, Bool, List, [], length, replicate, None}
use Rattle.std.specs.Option.{is_some}
use Rattle.drum_slots.specs.Slots.{slot_of}
use Rattle.drum_slots.specs.Table.{slots_of, quota_in}
use Rattle.drum_slots.specs.declared.slots.Slots.{Slots}
use Rattle.plan_model.specs.Loads.{no_places}
use Rattle.image_map.specs.State.{ImageState, IsUsable, image, size, base, places_in}
use Rattle.image_map.specs.Windows.{window}
use Rattle.user_cores.specs.Words.{words_of, AreWhole}

-- no load has failed, and each block of a user has 256 words
pub record IsWhole (s : ImageState) : Type 0 where
  pub usable : IsUsable s
  pub whole : (u : ℕ) → 1 ≤ u → AreWhole (image s u)

-- the words of a user's program, where the drum tells its records
abbrev pub words_in : ImageState → ℕ → List ℕ
words_in s u = words_of (image s u)

-- the blocks of core from the user's base on, as many as it has
abbrev pub window_in : ImageState → ℕ → List ℕ
window_in s u = window s.words (base s u) (size s u)

-- slots of which none keeps a block, for 30 users at most, of 128 blocks at most
pub record AreFree (slots : Slots) : Type 0 where
  pub none : (k : ℕ) → slot_of (slots_of slots) k ≡ None
  pub few : length slots.quotas.items ≤ 31
  pub limit : (u : ℕ) → quota_in slots u ≤ 128

-- cores of which no user has a block, with these quotas of blocks, behind which a drum tells its records or doesn't
pub record HasNoBlocks (quotas : List ℕ) (told : Bool) (s : ImageState) : Type 0 where
  pub whole : IsWhole s
  pub words : (u : ℕ) → 1 ≤ u → words_in s u ≡ []
  pub places : places_in s ≡ no_places
  pub sizes : s.sizes ≡ replicate (length quotas) 0
  pub quotas_are : s.slots.quotas.items ≡ quotas
  pub tells : is_some s.drum.contents ≡ told
