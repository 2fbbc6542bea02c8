-- claim: modules in a user's files, and what they make together.
use Rattle.std.specs.Prelude.{ℕ, List, [], ◌∷◌, ◌++◌, Option, Some, None, codes, Ok, Err}
use Rattle.std.specs.declared.result.Result.{Result}
use Rattle.ctss_types.specs.Names.{NamePair}
use Rattle.ctss_types.specs.Words.{name_of}
use Rattle.ctss_types.specs.declared.file.FileBody.{FileBody}
use Rattle.ctss_types.specs.declared.file.Refusal.{Refusal}
use Rattle.file_model.specs.Files.{got}
use Rattle.link_model.specs.declared.types.Module.{Module}
use Rattle.link_model.specs.Modules.{module_of_words}
use Rattle.link_model.specs.declared.types.LinkRefusal.{LinkRefusal}
use Rattle.link_model.specs.declared.types.LinkRefusal.TheVariants.{NoFile, BadModule, TooLarge, Doubly, Undefined}
use Rattle.link_model.specs.Links.{Linked, deck, too_large, doubly, undefined, link_of}

-- the file that a module of this name stands in
abbrev pub module_name : ℕ → NamePair
module_name name = record { first = name; second = name_of (codes "REL") }

-- what modules make together, as what their files make
abbrev pub said_of : Linked → Result (List ℕ) LinkRefusal
said_of (deck words) = Ok words
said_of too_large = Err TooLarge
said_of (doubly name) = Err (Doubly name)
said_of (undefined name) = Err (Undefined name)

abbrev pub module_said : Option Module → (Module → Result (List ℕ) LinkRefusal) → Result (List ℕ) LinkRefusal
module_said None more = Err BadModule
module_said (Some m) more = more m

abbrev pub module_got : Result (List ℕ) Refusal → (Module → Result (List ℕ) LinkRefusal) → Result (List ℕ) LinkRefusal
module_got (Ok words) more = module_said (module_of_words words) more
module_got (Err r) more = Err NoFile

-- behind the modules of files before
abbrev pub files_linked_from : List Module → List ℕ → List FileBody → Result (List ℕ) LinkRefusal
files_linked_from modules [] files = said_of (link_of modules)
files_linked_from modules (name ∷ names) files =
    module_got (got (module_name name) files) (λ m. files_linked_from (modules ++ m ∷ []) names files)

-- the deck that the modules of files make, or why there is none: the first file that isn't there or is no module comes first
abbrev pub files_linked : List ℕ → List FileBody → Result (List ℕ) LinkRefusal
files_linked names files = files_linked_from [] names files
