-- proof: what the loader's answers mean.
use Rattle.std.specs.Prelude.{◌≡◌, ℕ, List, Option, Some, None, Result, Ok, Err}
use Rattle.link_model.specs.declared.types.Module.{Module}
use Rattle.link_model.specs.Links.{Linked, deck, too_large, doubly, undefined}
use Rattle.bss_loader.specs.declared.fault.ModuleFault.{ModuleFault}
use Rattle.bss_loader.specs.declared.fault.ModuleFault.TheVariants as module_fault
use Rattle.bss_loader.specs.declared.fault.LinkFault.{LinkFault}
use Rattle.bss_loader.specs.declared.fault.LinkFault.TheVariants as link_fault

-- the module that is said, or that none is; want of memory says nothing
abbrev pub IsRead : Result Module ModuleFault → Option Module → Type 0
IsRead (Ok m) said = said ≡ Some m
IsRead (Err module_fault.BadModule) said = said ≡ None
IsRead (Err module_fault.NoMemory) said = Unit {0}

-- the deck that is said, or why there is none; want of memory says nothing
abbrev pub IsLinked : Result (List ℕ) LinkFault → Linked → Type 0
IsLinked (Ok words) said = said ≡ deck words
IsLinked (Err link_fault.TooLarge) said = said ≡ too_large
IsLinked (Err (link_fault.Doubly name)) said = said ≡ doubly name
IsLinked (Err (link_fault.Undefined name)) said = said ≡ undefined name
IsLinked (Err link_fault.NoMemory) said = Unit {0}
