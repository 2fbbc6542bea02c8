-- proof: what the answers of assembling mean.
use Rattle.std.specs.Prelude.{◌≡◌, ℕ, ◌+◌, not, if◌then◌else◌, List, [], ◌∷◌, length, Result, Ok, Err}
use Rattle.std.specs.List.{prefix_len}
use Rattle.fap_read.specs.declared.card.Card.{Card}
use Rattle.fap_model.specs.Decks.{Assembled, deck, faulty, is_end, has_end, operation_in}
use Rattle.link_model.specs.declared.types.Module.{Module}
use Rattle.link_model.specs.ModuleCards.{ModuleMade, relocatable, faulty as module_faulty}
use Rattle.fap_assemble.specs.declared.assembler.Deck.{Deck}
use Rattle.fap_assemble.specs.declared.fault.AsmFault.{AsmFault}
use Rattle.fap_assemble.specs.declared.fault.AsmFault.TheVariants.{Faults, NoMemory}
use Rattle.fap_assemble.specs.Steps.{texts}
use Rattle.fap_assemble.specs.Follows.{numbered}

-- the deck that is said, or the faults that are said; want of memory says nothing
abbrev pub IsAssembled : Result Deck AsmFault → Assembled → Type 0
IsAssembled (Ok d) said = said ≡ deck d.words
IsAssembled (Err (Faults fs)) said = said ≡ faulty (numbered fs)
IsAssembled (Err NoMemory) said = Unit {0}

-- the module that is said, or the faults that are said; want of memory says nothing
abbrev pub IsModuleMade : Result Module AsmFault → ModuleMade → Type 0
IsModuleMade (Ok m) said = said ≡ relocatable m
IsModuleMade (Err (Faults fs)) said = said ≡ module_faulty (numbered fs)
IsModuleMade (Err NoMemory) said = Unit {0}

-- the faults that are said, where there are any
abbrev pub IsRefused : Result Unit AsmFault → ModuleMade → Type 0
IsRefused (Ok _) said = Unit {0}
IsRefused (Err (Faults fs)) said = said ≡ module_faulty (numbered fs)
IsRefused (Err NoMemory) said = Unit {0}

-- how many cards stand before the first END
abbrev pub end_index : List Card → ℕ
end_index cards = prefix_len (λ (c : Card). not (is_end (operation_in c.text))) cards

-- the fault of a missing END
abbrev pub missing_end : List Card → List (ℕ × ℕ)
missing_end cards = if has_end (texts cards) then [] else (length cards + 1, 6) ∷ []
