-- proof: what a store of a word leaves of a port.
use Rattle.std.specs.Prelude.{◌≡◌, ℕ, ◌+◌, ◌*◌, slice_set, OnOk, OnErr}
use Rattle.std.specs.declared.result.Result.{Result}
use Rattle.image_map.specs.declared.port.Port.{Port}

-- A port stands over the same blocks of the same bank, of which one word changes where the address is one of theirs.
pub record ChangesWord (address word : ℕ) {T E : Type 0} (result : Result T E) (old new : Port) : Type 0 where
  pub same : new.bank.ghost_name ≡ old.bank.ghost_name
  pub base : new.base ≡ old.base
  pub blocks : new.blocks ≡ old.blocks
  pub bank : OnOk result (new.bank.now ≡ slice_set old.bank.now (address + 256 * old.base) word)
  pub same_bank : OnErr result (new.bank.now ≡ old.bank.now)
