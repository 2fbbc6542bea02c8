-- proof: what an answer says of files that are linked, and of those that were read before.
use Rattle.std.specs.Prelude.{◌≡◌, ℕ, Bool, nat_eq, List, find, Option, Some, None, Ok, Err}
use Rattle.std.specs.Option.{option_map}
use Rattle.std.specs.declared.result.Result.{Result}
use Rattle.ctss_types.specs.declared.file.FileBody.{FileBody}
use Rattle.ctss_types.specs.declared.file.Refusal.{Refusal}
use Rattle.file_model.specs.Files.{got}
use Rattle.file_map.specs.Known.{known}
use Rattle.link_model.specs.declared.types.Module.{Module}
use Rattle.link_model.specs.declared.types.LinkRefusal.{LinkRefusal}
use Rattle.link_model.specs.declared.types.LinkRefusal.TheVariants as refusal
use Rattle.link_model.specs.Modules.{module_of_words}
use Rattle.link_model.specs.Links.{link_of}
use Rattle.link_model.specs.Files.{module_name, said_of}
use Rattle.bss_loader.specs.declared.fault.LinkFault.{LinkFault}
use Rattle.bss_loader.specs.declared.fault.LinkFault.TheVariants as loader
use Rattle.cmd_program.specs.declared.link.LinkFilesFault.{LinkFilesFault}
use Rattle.cmd_program.specs.declared.link.LinkFilesFault.TheVariants as fault
use Rattle.cmd_program.specs.declared.link.ModuleFile.{ModuleFile}

-- what is linked or its refusal is just what the files say; a fault of disk or memory says nothing
abbrev pub Links : {T : Type 0} → Result T LinkFilesFault → Result T LinkRefusal → Type 0
Links (Ok x) told = told ≡ Ok x
Links (Err (fault.Refused r)) told = told ≡ Err r
Links (Err fault.Disk) told = Unit {0}
Links (Err fault.NoMemory) told = Unit {0}

-- an answer is what the definition tells of some files that are known as these
abbrev pub LinksOver : {T : Type 0} → Bool → List FileBody → Result T LinkFilesFault → (List FileBody → Result T LinkRefusal) → Type 0
LinksOver tells files result told = (fs : List FileBody) × (known tells fs ≡ files) × Links result (told fs)

-- the loader's refusal, or want of memory
abbrev pub fault_of : LinkFault → LinkFilesFault
fault_of loader.TooLarge = fault.Refused refusal.TooLarge
fault_of (loader.Doubly name) = fault.Refused (refusal.Doubly name)
fault_of (loader.Undefined name) = fault.Refused (refusal.Undefined name)
fault_of loader.NoMemory = fault.NoMemory

-- the words of a file, or that it isn't there
abbrev pub words_told : Result (List ℕ) Refusal → Result (List ℕ) LinkRefusal
words_told (Ok words) = Ok words
words_told (Err r) = Err refusal.NoFile

abbrev pub or_bad_module : Option Module → Result Module LinkRefusal
or_bad_module (Some m) = Ok m
or_bad_module None = Err refusal.BadModule

-- the module that the words of a file say
abbrev pub module_told : Result (List ℕ) Refusal → Result Module LinkRefusal
module_told (Ok words) = or_bad_module (module_of_words words)
module_told (Err r) = Err refusal.NoFile

-- the words of a name's file, if it was read: those of the first read
abbrev pub words_kept : ℕ → List ModuleFile → Option (List ℕ)
words_kept name kept = option_map (λ (f : ModuleFile). f.words) (find (λ (f : ModuleFile). nat_eq f.name name) kept)

-- what was read is what files say
abbrev pub AreKept : List FileBody → List ModuleFile → Type 0
AreKept fs kept = (name : ℕ) (words : List ℕ) → words_kept name kept ≡ Some words → got (module_name name) fs ≡ Ok words

-- what was read is what some files say that are known as these
pub record AreRead (tells : Bool) (files : List FileBody) (kept : List ModuleFile) : Type 0 where
  pub all : List FileBody
  pub are : known tells all ≡ files
  pub keep : AreKept all kept

-- all files that say what is read now said what was read before, and of this name's file they say this module
pub record IsNext (tells : Bool) (files : List FileBody) (name : ℕ) (old new : List ModuleFile) (m : Module) : Type 0 where
  pub read : AreRead tells files new
  pub before : (fs : List FileBody) → AreKept fs new → AreKept fs old
  pub said : (fs : List FileBody) → AreKept fs new → module_told (got (module_name name) fs) ≡ Ok m

-- some files that are known as these say what was read before, and why there is no module of this name
pub record IsRefused (tells : Bool) (files : List FileBody) (name : ℕ) (old : List ModuleFile) (r : LinkRefusal) : Type 0 where
  pub all : List FileBody
  pub are : known tells all ≡ files
  pub keep : AreKept all old
  pub said : module_told (got (module_name name) all) ≡ Err r

-- the module of a name's file behind files that were read
abbrev pub ReadsNext : Bool → List FileBody → ℕ → (old new : List ModuleFile) → Result Module LinkFilesFault → Type 0
ReadsNext tells files name old new (Ok m) = IsNext tells files name old new m
ReadsNext tells files name old new (Err (fault.Refused r)) = IsRefused tells files name old r
ReadsNext tells files name old new (Err fault.Disk) = Unit {0}
ReadsNext tells files name old new (Err fault.NoMemory) = Unit {0}

-- modules that were read are those that are linked, or there is a refusal before
abbrev pub Reads : Result (List Module) LinkFilesFault → Result (List ℕ) LinkRefusal → Type 0
Reads (Ok modules) told = told ≡ said_of (link_of modules)
Reads (Err (fault.Refused r)) told = told ≡ Err r
Reads (Err fault.Disk) told = Unit {0}
Reads (Err fault.NoMemory) told = Unit {0}

-- the modules of some files that are known as these
abbrev pub ReadsOver : Bool → List FileBody → Result (List Module) LinkFilesFault → (List FileBody → Result (List ℕ) LinkRefusal) → Type 0
ReadsOver tells files result told = (fs : List FileBody) × (known tells fs ≡ files) × Reads result (told fs)
