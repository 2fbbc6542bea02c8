-- claim: worked rows of the laws.
use Rattle.std.specs.Prelude.{◌≡◌, ℕ, List, [], ◌∷◌, take, drop, codes, Some, None}
use Rattle.ctss_types.specs.Words.{name_of}
use Rattle.opcode_table.specs.declared.op.Class.TheVariants.{Addressed, Group}
use Rattle.fap_model.specs.Places.{value_in}
use Rattle.fap_model.specs.Decks.{Segment}
use Rattle.fap_model.specs.Rows.{greeting}
use Rattle.rule_laws.specs.Words.{cleared}
use Rattle.rule_laws.specs.Decks.{AreLaid}
use Rattle.rule_laws.specs.Cards.{known, IsOrigin, sizes}
use Rattle.rule_laws.specs.Assembly.{deck_said}

-- what is left of words with ones in positions 12 to 17
pub record RowOfCodes : Type 0 where
  pub junk : cleared Addressed 0o010136000010 ≡ 0o010100000010
  pub flag : cleared Addressed 0o010176000010 ≡ 0o010160000010
  pub half_flag : cleared Addressed 0o010140000010 ≡ 0o010100000010
  pub group : cleared Group 0o076012300006 ≡ 0o076000300006

abbrev pub segment : ℕ → List ℕ → Segment
segment first words = record { first = first; words = words }

-- two words at 1 and one at 0, with something in the tag of the second head
abbrev pub RowOfLaid : Type 0
RowOfLaid =
    AreLaid (segment 1 (5 ∷ 6 ∷ []) ∷ segment 0 (7 ∷ []) ∷ []) (0o000002000001 ∷ 5 ∷ 6 ∷ 0o000001700000 ∷ 7 ∷ [])

-- nine cards: the first is an ORG, and the five behind it take six words
pub record RowOfCards : Type 0 where
  pub origin : IsOrigin [] (codes "       ORG     8")
  pub since : sizes (take 1 greeting) (take 5 (drop 1 greeting)) ≡ 6
  pub place : (known (take 6 greeting)).place ≡ 14
  pub symbol : value_in (known greeting).symbols (name_of (codes "BUF")) ≡ Some 12
  pub unknown : value_in (known greeting).symbols (name_of (codes "BUFF")) ≡ None
  pub said : deck_said greeting ≡ record { start = 8; blocks = 1 }
