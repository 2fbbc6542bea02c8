-- The listing of cards is that of what they come to.
use Rattle.std.proofs.Common.{◌≡◌, ℕ, Bool, true, false, List, refl, if◌then◌else◌}
use Rattle.fap_model.specs.Listed.{listed}
use Rattle.link_model.specs.ModuleCards.{is_relocatable}
use Rattle.link_model.specs.Listed.{listed_module}
use Rattle.fap_listing.specs.declared.listed.Made.TheVariants.{Deck, Module}
use Rattle.fap_listing.specs.Listing.{deck_listing_of}
use Rattle.fap_listing.specs.ModuleListing.{module_listing_of}
use Rattle.fap_listing.specs.Cards.{made_of, made_text, listing_of}

pub made_listing : (cards : List (List ℕ)) → made_text (made_of cards) cards ≡ listing_of cards
made_listing cards = by (is_relocatable cards)
  where
    by : (b : Bool) → made_text (if b then Module (listed_module cards) else Deck (listed cards)) cards ≡ (if b then module_listing_of cards else deck_listing_of cards)
    by true = refl
    by false = refl
