-- claim: a deck as a first word and segments laid end to end, and what its segments leave in a core.
use Rattle.std.specs.Prelude.{◌≡◌, ℕ, ◌+◌, ◌*◌, ◌<◌, ◌≤◌, ◌↔◌, List, [], ◌∷◌, ◌++◌, length, slice_index, All, Ok, Err}
use Rattle.word36.specs.Bits.{address_of, decrement_of}
use Rattle.program_model.specs.declared.Deck.{Deck}
use Rattle.program_model.specs.declared.LoadFault.TheVariants.{BadDeck, TooLarge}
use Rattle.program_model.specs.Decks.{deck_in, filled}
use Rattle.fap_model.specs.Decks.{Segment}

-- Words that are segments laid end to end: of each a head, with the first place in its address and the count in its
-- decrement, and then its words.
abbrev pub AreLaid : List Segment → List ℕ → Type 0
AreLaid [] words = words ≡ []
AreLaid (s ∷ segments) words =
    (head : ℕ) × (rest : List ℕ) × (words ≡ head ∷ (s.words ++ rest)) × (address_of head ≡ s.first)
    × (decrement_of head ≡ length s.words) × AreLaid segments rest

-- a segment has a word at least, and lies within so many words
pub record IsInside (size : ℕ) (s : Segment) : Type 0 where
  pub some : 1 ≤ length s.words
  pub inside : s.first + length s.words ≤ size

-- The words of a deck with these segments: a first word with the start in its decrement and the blocks in its address,
-- and behind it the segments. There are 1 to 128 blocks, and start and segments lie within them.
pub record IsLaid (d : Deck) (segments : List Segment) (words : List ℕ) : Type 0 where
  pub first : ℕ
  pub rest : List ℕ
  pub words_are : words ≡ first ∷ rest
  pub start_is : decrement_of first ≡ d.start
  pub blocks_are : address_of first ≡ d.blocks
  pub laid : AreLaid segments rest
  pub some : 1 ≤ d.blocks
  pub most : d.blocks ≤ 128
  pub start : d.start < 256 * d.blocks
  pub inside : All (IsInside (256 * d.blocks)) segments

abbrev pub IsDeck : Deck → List ℕ → Type 0
IsDeck d words = (segments : List Segment) × IsLaid d segments words

-- What a file says: it is a deck just where it is laid as one that the user may have; it is too large just where it is
-- laid as one that has more blocks; and it is bad just where it is laid as none.
pub record DeckIsLaid : Type 0 where
  pub deck :
      (quota : ℕ) (words : List ℕ) (d : Deck) → (deck_in quota words ≡ Ok d) ↔ (IsDeck d words × (d.blocks ≤ quota))
  pub large :
      (quota : ℕ) (words : List ℕ)
      → (deck_in quota words ≡ Err TooLarge) ↔ ((d : Deck) × IsDeck d words × (quota < d.blocks))
  pub bad :
      (quota : ℕ) (words : List ℕ) → (deck_in quota words ≡ Err BadDeck) ↔ ((d : Deck) → ¬ (IsDeck d words))

-- a segment has a word for a place
abbrev pub Covers : Segment → ℕ → Type 0
Covers s place = (s.first ≤ place) × (place < s.first + length s.words)

abbrev pub NoneCovers : List Segment → ℕ → Type 0
NoneCovers segments place = All (λ (s : Segment). ¬ (Covers s place)) segments

-- What segments leave of a core: at each place the word of the last one that covers it, and the old one where none
-- does. The words of a segment cover its first place and those behind it; places outside the core get none.
pub record AreStored (segments : List Segment) (core new : List ℕ) : Type 0 where
  pub size : length new ≡ length core
  pub last :
      (before after : List Segment) (s : Segment) (k : ℕ) → segments ≡ before ++ s ∷ after → k < length s.words
      → s.first + k < length core → NoneCovers after (s.first + k)
      → slice_index new (s.first + k) ≡ slice_index s.words k
  pub old : (place : ℕ) → NoneCovers segments place → slice_index new place ≡ slice_index core place

-- the words of a file behind its first, where they are segments, leave that
abbrev pub SegmentsAreStored : Type 0
SegmentsAreStored =
    (first : ℕ) (rest : List ℕ) (segments : List Segment) (core : List ℕ)
    → AreLaid segments rest → AreStored segments core (filled (first ∷ rest) core)
