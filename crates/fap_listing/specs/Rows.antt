-- proof: bytes that show, one after another.
use Rattle.std.specs.Prelude.{ℕ, List, [], ◌∷◌}
use Rattle.fap_listing.specs.Listing.{shown_byte}

abbrev pub shown_bytes : ℕ → List ℕ
shown_bytes b = shown_byte b ∷ []
