-- proof: what an answer says of a file, and what a filled program says of it.
use Rattle.std.specs.Prelude.{◌≡◌, ℕ, ◌<◌, ◌^◌, Bool, List, Ok, Err, OnOk, OnErr}
use Rattle.std.specs.declared.result.Result.{Result}
use Rattle.ctss_types.specs.declared.file.FileBody.{FileBody}
use Rattle.cpu_regs.specs.declared.regs.Regs.{Regs}
use Rattle.file_model.specs.Files.{got}
use Rattle.file_map.specs.Known.{known}
use Rattle.program_model.specs.Decks.{words_got}
use Rattle.program_model.specs.Fills.{fill_name, filled_core, filled_regs}
use Rattle.program_model.specs.declared.Fill.{Fill}
use Rattle.program_model.specs.declared.LoadFault.{LoadFault}
use Rattle.cmd_program.specs.declared.load.PrepareFault.{PrepareFault}
use Rattle.cmd_program.specs.declared.load.PrepareFault.TheVariants as fault

-- a program or its fault is just what the file says; a fault of disk or memory says nothing
abbrev pub Prepares : {T : Type 0} → Result T PrepareFault → Result T LoadFault → Type 0
Prepares (Ok x) told = told ≡ Ok x
Prepares (Err (fault.Load f)) told = told ≡ Err f
Prepares (Err fault.Disk) told = Unit {0}
Prepares (Err fault.NoMemory) told = Unit {0}

-- an answer is what the definition tells of some files that are known as these
abbrev pub PreparesOver : {T : Type 0} → Bool → List FileBody → Result T PrepareFault → (List FileBody → Result T LoadFault) → Type 0
PreparesOver tells files result told = (fs : List FileBody) × ((known tells fs ≡ files) × Prepares result (told fs))

-- a core and registers are filled with a file's words
pub record IsFilled (fill : Fill) (words : List ℕ) (before after : Regs) (old new : List ℕ) : Type 0 where
  pub core : new ≡ filled_core fill words old
  pub regs : after ≡ filled_regs fill words before

-- a core and registers were filled with the words of the file, of some files that are known as these
abbrev pub FillsOver : Bool → List FileBody → Fill → (before after : Regs) → (old new : List ℕ) → Type 0
FillsOver tells files fill before after old new =
    (fs : List FileBody) × ((known tells fs ≡ files) × IsFilled fill (words_got (got (fill_name fill) fs)) before after old new)

-- a core and registers were filled so, and the counter is a place; or they are as before
pub record Fills (tells : Bool) (files : List FileBody) (fill : Fill) {T E : Type 0} (result : Result T E)
    (before after : Regs) (old new : List ℕ) : Type 0 where
  pub filled : OnOk result (FillsOver tells files fill before after old new)
  pub ic : OnOk result (after.ic < 2 ^ 15)
  pub same_words : OnErr result (new ≡ old)
  pub same_regs : OnErr result (after ≡ before)
