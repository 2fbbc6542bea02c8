-- claim: a program that was saved and is resumed is the program.
use Rattle.std.specs.Prelude.{◌≡◌, ℕ, ◌*◌, ◌^◌, ◌<◌, ◌≤◌, List, length, Ok}
use Rattle.ctss_types.specs.Names.{NamePair}
use Rattle.cpu_regs.specs.Index.{AreIndexes}
use Rattle.cpu_regs.specs.declared.regs.Regs.{Regs}
use Rattle.program_model.specs.declared.Fill.TheVariants.{Saved}
use Rattle.program_model.specs.Saved.{saved, saved_in}
use Rattle.program_model.specs.Fills.{filled_core, filled_regs}

-- registers as a machine has them
pub record AreRegisters (r : Regs) : Type 0 where
  pub ac : r.ac.magnitude < 2 ^ 37
  pub ic : r.ic < 2 ^ 15
  pub indexes : AreIndexes r.index

-- a program of so many blocks, with these registers and this core, comes back from the words that it was saved in
pub record IsBack (blocks : ℕ) (name : NamePair) (r : Regs) (core : List ℕ) : Type 0 where
  pub size : (quota : ℕ) → blocks ≤ quota → saved_in quota (saved blocks r core) ≡ Ok blocks
  pub regs : (before : Regs) → filled_regs (Saved name) (saved blocks r core) before ≡ r
  pub words : (before : List ℕ) → length before ≡ length core → filled_core (Saved name) (saved blocks r core) before ≡ core

abbrev pub SavedIsBack : Type 0
SavedIsBack =
    (blocks : ℕ) (name : NamePair) (r : Regs) (core : List ℕ) → 1 ≤ blocks → blocks ≤ 128 → length core ≡ 256 * blocks → AreRegisters r →
    IsBack blocks name r core
