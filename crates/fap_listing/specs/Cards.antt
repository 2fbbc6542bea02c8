-- claim: the listing of cards, which are a module's or a deck's.
use Rattle.std.specs.Prelude.{ℕ, List, if◌then◌else◌}
use Rattle.fap_model.specs.Listed.{listed}
use Rattle.link_model.specs.ModuleCards.{is_relocatable}
use Rattle.link_model.specs.Listed.{listed_module}
use Rattle.fap_listing.specs.declared.listed.Made.{Made}
use Rattle.fap_listing.specs.declared.listed.Made.TheVariants.{Deck, Module}
use Rattle.fap_listing.specs.Listing.{listing_text, fault_count, deck_listing_of}
use Rattle.fap_listing.specs.ModuleListing.{module_text, module_fault_count, module_listing_of}

-- what cards come to
abbrev pub made_of : List (List ℕ) → Made
made_of cards = if is_relocatable cards then Module (listed_module cards) else Deck (listed cards)

-- how many faults they have
abbrev pub made_faults : Made → ℕ
made_faults (Deck l) = fault_count l
made_faults (Module l) = module_fault_count l

-- the listing of cards that come to this
abbrev pub made_text : Made → List (List ℕ) → List ℕ
made_text (Deck l) cards = listing_text l cards
made_text (Module l) cards = module_text l cards

-- the listing of cards
abbrev pub listing_of : List (List ℕ) → List ℕ
listing_of cards = if is_relocatable cards then module_listing_of cards else deck_listing_of cards
