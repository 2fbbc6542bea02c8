-- proof: what cards make, as code hands it on.
use Rattle.std.specs.Prelude.{ℕ, List, map, Ok, Err, if◌then◌else◌}
use Rattle.std.specs.declared.result.Result.{Result}
use Rattle.ctss_types.specs.declared.file.Refusal.{Refusal}
use Rattle.fap_model.specs.Cards.{cards_of}
use Rattle.fap_model.specs.Decks.{Assembled, deck, faulty, assembled}
use Rattle.link_model.specs.Modules.{module_words}
use Rattle.link_model.specs.ModuleCards as modules
use Rattle.link_model.specs.ModuleCards.{ModuleMade, module_made, is_relocatable}
use Rattle.fap_assemble.specs.declared.fault.CardFault.{CardFault}
use Rattle.user_model.specs.Texts.{fault_text}
use Rattle.cmd_fap.specs.declared.assembly.Assembly.{Assembly}
use Rattle.cmd_fap.specs.declared.assembly.Assembly.TheVariants.{Deck, Module, Faults}

-- a fault as a line
abbrev pub line_of_fault : CardFault → List ℕ
line_of_fault f = fault_text (f.card, f.number)

-- faults as lines
abbrev pub assembly_in : Assembled → Assembly
assembly_in (deck words) = Deck words
assembly_in (faulty faults) = Faults (map fault_text faults)

-- a module as the words of its file, or faults as lines
abbrev pub module_assembly : ModuleMade → Assembly
module_assembly (modules.relocatable m) = Module (module_words m)
module_assembly (modules.faulty faults) = Faults (map fault_text faults)

-- what cards make: a module where they are a module's, and else a deck
abbrev pub assembly_of : List (List ℕ) → Assembly
assembly_of cards = if is_relocatable cards then module_assembly (module_made cards) else assembly_in (assembled cards)

-- what the cards of a file make, or why it isn't read
abbrev pub assembly_got : Result (List ℕ) Refusal → Result Assembly Refusal
assembly_got (Ok words) = Ok (assembly_of (cards_of words))
assembly_got (Err r) = Err r
