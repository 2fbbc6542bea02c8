-- proof: what the passes over the cards keep.
use Rattle.std.specs.Prelude.{◌≡◌, ℕ, List, [], Option, Some, None}
use Rattle.fap_model.specs.Places.{Known, nothing_known, known_after}
use Rattle.fap_model.specs.Decks.{literals_with, reach_from}
use Rattle.fap_assemble.specs.declared.tables.Tables.{Tables}
use Rattle.fap_assemble.specs.Tables.{defined}

abbrev pub symbol_entered : List (ℕ × ℕ) → Option ℕ → ℕ → List (ℕ × ℕ)
symbol_entered symbols None v = symbols
symbol_entered symbols (Some name) v = defined symbols name v

abbrev pub known_in : Tables → Known
known_in t = record { place = t.place; symbols = t.symbols }

-- what is known behind the rest of the cards, and their literals and reach
pub record Comes (t : Tables) (rest : List (List ℕ)) (k : Known) (literals : List ℕ) (reach : ℕ) : Type 0 where
  pub known : known_after (known_in t) rest ≡ k
  pub literals_are : literals_with t.literals rest ≡ literals
  pub reach_is : reach_from t.reach (known_in t) rest ≡ reach

abbrev pub HasAll : Tables → List (List ℕ) → Type 0
HasAll t cards = Comes t [] (known_after nothing_known cards) (literals_with [] cards) (reach_from 0 nothing_known cards)
