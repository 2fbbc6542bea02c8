-- proof: some blocks of core that are lent to a user's program.
use Rattle.std.specs.Prelude.{◌≡◌, ℕ, ◌≤◌, ◌<◌, ◌+◌, ◌-◌, ◌*◌, ◌^◌, List, length, take, drop, OnErr}
use Rattle.std.specs.declared.result.Result.{Result}
use Rattle.core_bank.specs.Bank.{AreWords}
use Rattle.image_map.specs.Windows.{window}
use Rattle.user_model.specs.Inner.{blocks_of}
use Rattle.user_model.specs.User.{User}

-- these blocks can be lent to a step of a user's program: they lie within core, whose words are words, and are as many as it has
pub record CanLend (base blocks : ℕ) (p : User) (bank : List ℕ) : Type 0 where
  pub most : base + blocks ≤ 128
  pub words : AreWords bank
  pub size : blocks ≡ blocks_of p.inner
  pub fits : p.own < 2 ^ 64 - 1

-- the words before and behind these blocks stay
pub record StaysAround (base blocks : ℕ) (old new : List ℕ) : Type 0 where
  pub words : AreWords new
  pub len : length new ≡ 32768
  pub front : take (256 * base) new ≡ take (256 * base) old
  pub rest : drop (256 * (base + blocks)) new ≡ drop (256 * (base + blocks)) old

-- and those of the blocks stay where a call fails
pub record KeepsCoreOf {T E : Type 0} (base blocks : ℕ) (result : Result T E) (old new : List ℕ) : Type 0 where
  pub around : StaysAround base blocks old new
  pub err : OnErr result (window new base blocks ≡ window old base blocks)
