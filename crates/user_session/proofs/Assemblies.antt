-- What cards make is put as the row of FAP says.
use Rattle.std.proofs.Common.{◌≡◌, ℕ, Bool, true, false, List, if◌then◌else◌, Ok, Err, ap}
use Rattle.std.specs.declared.result.Result.{Result}
use Rattle.ctss_types.specs.declared.file.Refusal.{Refusal}
use Rattle.fap_model.specs.Cards.{cards_of}
use Rattle.fap_model.specs.Decks.{Assembled, deck, faulty, assembled}
use Rattle.link_model.specs.Files.{module_name}
use Rattle.link_model.specs.ModuleCards as modules
use Rattle.link_model.specs.ModuleCards.{ModuleMade, module_made, is_relocatable}
use Rattle.program_model.specs.Decks.{deck_name}
use Rattle.cmd_fap.specs.declared.assembly.Assembly.TheVariants.{Deck, Module}
use Rattle.cmd_fap.specs.Assemblies.{assembly_in, module_assembly, assembly_got}
use Rattle.user_model.specs.Commands.{Effect, puts, assembly_put, module_put, cards_assembled}

-- an effect by whether the cards are a module's
abbrev effect_by : Bool → ℕ → ModuleMade → Assembled → Effect
effect_by b name m a = if b then module_put name m else assembly_put name a

deck_by : (b : Bool) (name : ℕ) (m : ModuleMade) (a : Assembled) (words : List ℕ) → (if b then module_assembly m else assembly_in a) ≡ Deck words
    → effect_by b name m a ≡ puts (deck_name name) words
deck_by true name (modules.relocatable m) a words h = absurd cc
deck_by true name (modules.faulty fs) a words h = absurd cc
deck_by false name m (deck ws) words h = let same : ws ≡ words = cc in ap (λ (x : List ℕ). puts (deck_name name) x) same
deck_by false name m (faulty fs) words h = absurd cc

module_by : (b : Bool) (name : ℕ) (m : ModuleMade) (a : Assembled) (words : List ℕ) → (if b then module_assembly m else assembly_in a) ≡ Module words
    → effect_by b name m a ≡ puts (module_name name) words
module_by true name (modules.relocatable m) a words h = made
  where
    made : module_put name (modules.relocatable m) ≡ puts (module_name name) words
    made = let same : module_assembly (modules.relocatable m) ≡ Module words = h in ap (λ (x : List ℕ). puts (module_name name) x) cc
module_by true name (modules.faulty fs) a words h = absurd cc
module_by false name m (deck ws) words h = absurd cc
module_by false name m (faulty fs) words h = absurd cc

pub deck_put : (name : ℕ) (file : Result (List ℕ) Refusal) (words : List ℕ) → Ok (Deck words) ≡ assembly_got file → cards_assembled name file ≡ puts (deck_name name) words
deck_put name (Ok ws) words h = deck_by (is_relocatable (cards_of ws)) name (module_made (cards_of ws)) (assembled (cards_of ws)) words cc
deck_put name (Err r) words h = absurd cc

pub relocatable_put : (name : ℕ) (file : Result (List ℕ) Refusal) (words : List ℕ) → Ok (Module words) ≡ assembly_got file → cards_assembled name file ≡ puts (module_name name) words
relocatable_put name (Ok ws) words h = module_by (is_relocatable (cards_of ws)) name (module_made (cards_of ws)) (assembled (cards_of ws)) words cc
relocatable_put name (Err r) words h = absurd cc
