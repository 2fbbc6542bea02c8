-- claim: the core that LOADGO fills from a linked deck.
use Rattle.std.specs.Prelude.{◌≡◌, ℕ, ◌+◌, ◌*◌, ◌<◌, List, [], ◌∷◌, ◌++◌, length, replicate, slice_index, nat_le, if◌then◌else◌, Ok, Err}
use Rattle.program_model.specs.declared.Deck.{Deck}
use Rattle.program_model.specs.declared.LoadFault.TheVariants.{TooLarge}
use Rattle.program_model.specs.Decks.{deck_in, filled}
use Rattle.fap_model.specs.Decks.{Segment, blocks_for}
use Rattle.link_model.specs.declared.types.Module.{Module}
use Rattle.link_model.specs.Links.{places_of_all, entered_from, start_of_all, link_of, deck}
use Rattle.link_model.specs.ModuleCards.{module_made, relocatable}
use Rattle.link_model.specs.Laid.{laid_at}
use Rattle.rule_laws.specs.Decks.{NoneCovers}

-- each module is that of its cards
abbrev pub AreMade : List (List (List ℕ)) → List Module → Type 0
AreMade [] [] = Unit {0}
AreMade [] (m ∷ modules) = ⊥
AreMade (cards ∷ all) [] = ⊥
AreMade (cards ∷ all) (m ∷ modules) = (module_made cards ≡ relocatable m) × AreMade all modules

-- the cards of each module where it comes to lie: its first place is behind the modules before, and an extern is worth what
-- is entered
abbrev pub laid_all : ℕ → List (ℕ × ℕ) → List (List (List ℕ)) → List Module → List Segment
laid_all base entries [] modules = []
laid_all base entries (cards ∷ all) [] = []
laid_all base entries (cards ∷ all) (m ∷ modules) = laid_at cards base entries ++ laid_all (base + length m.places) entries all modules

-- a core holds the words of segments at their places, and plus zero at every other place
pub record HoldsJust (segments : List Segment) (core : List ℕ) : Type 0 where
  pub words :
      (before after : List Segment) (s : Segment) (k : ℕ) → segments ≡ before ++ s ∷ after → k < length s.words
      → slice_index core (s.first + k) ≡ slice_index s.words k
  pub zeros : (place : ℕ) → NoneCovers segments place → slice_index core place ≡ 0

-- what a deck's words leave in a core of plus zeros that has the blocks which so many places need
abbrev pub core_of : (places : ℕ) → List ℕ → List ℕ
core_of places words = filled words (replicate (256 * blocks_for places) 0)

-- module 1's start, and the blocks that all places need
abbrev pub deck_said : List Module → Deck
deck_said modules = record { start = start_of_all modules; blocks = blocks_for (places_of_all modules) }

-- A linked deck as LOADGO takes it: it says module 1's start and the blocks, where the user may have so many; and its core
-- has the words of each module's cards at the places where they come to lie, and plus zero at every other place.
pub record IsLinked (all : List (List (List ℕ))) (modules : List Module) (words : List ℕ) : Type 0 where
  pub said :
      (quota : ℕ)
      → deck_in quota words ≡ (if nat_le (blocks_for (places_of_all modules)) quota then Ok (deck_said modules) else Err TooLarge)
  pub core : HoldsJust (laid_all 0 (entered_from 0 modules) all modules) (core_of (places_of_all modules) words)

-- where modules are those of cards, and nothing is refused
abbrev pub DeckIsLinked : Type 0
DeckIsLinked =
    (all : List (List (List ℕ))) (modules : List Module) (words : List ℕ) → AreMade all modules → link_of modules ≡ deck words
    → IsLinked all modules words
