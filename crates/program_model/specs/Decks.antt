-- claim: a deck: a word with the start in its decrement and the number of blocks in its address, and then segments to the end,
-- each a word with the count in its decrement and the first place in its address, and that many words.
use Rattle.std.specs.Prelude.{ℕ, zero, suc, ◌+◌, ◌*◌, Bool, ◌&&◌, nat_eq, nat_lt, nat_le, if◌then◌else◌, List, [], ◌∷◌, slice_set, drop, codes, Ok, Err}
use Rattle.std.specs.declared.result.Result.{Result}
use Rattle.word36.specs.Bits.{address_of, decrement_of}
use Rattle.program_model.specs.declared.Deck.{Deck}
use Rattle.ctss_types.specs.Names.{NamePair}
use Rattle.ctss_types.specs.Words.{name_of}
use Rattle.ctss_types.specs.declared.file.Refusal.{Refusal}
use Rattle.program_model.specs.declared.LoadFault.{LoadFault}
use Rattle.program_model.specs.declared.LoadFault.TheVariants.{NoFile, BadDeck, TooLarge}

-- Words behind the first, so many of which are still of a segment: each segment has a word at least, ends with the deck
-- or before, and lies within the size.
abbrev pub are_segments : (size left : ℕ) → List ℕ → Bool
are_segments size left [] = nat_eq left 0
are_segments size zero (w ∷ ws) = nat_le 1 (decrement_of w) && nat_le (address_of w + decrement_of w) size && are_segments size (decrement_of w) ws
are_segments size (suc left) (w ∷ ws) = are_segments size left ws

-- the first word and what stands behind it
abbrev pub is_deck : ℕ → List ℕ → Bool
is_deck w ws =
    nat_le 1 (address_of w) && nat_le (address_of w) 128 && nat_lt (decrement_of w) (256 * address_of w) && are_segments (256 * address_of w) 0 ws

-- what the words of a file say as a deck, for a user of so many blocks
abbrev pub deck_in : ℕ → List ℕ → Result Deck LoadFault
deck_in quota [] = Err BadDeck
deck_in quota (w ∷ ws) =
    if is_deck w ws then (if nat_le (address_of w) quota then Ok (record { start = decrement_of w; blocks = address_of w }) else Err TooLarge)
    else Err BadDeck

-- what a file that was asked for says as a deck
abbrev pub deck_of : ℕ → Result (List ℕ) Refusal → Result Deck LoadFault
deck_of quota (Ok words) = deck_in quota words
deck_of quota (Err r) = Err NoFile

-- the file that a program of this name is loaded from
abbrev pub deck_name : ℕ → NamePair
deck_name name = record { first = name; second = name_of (codes "BSS") }

-- the words of a file that was asked for
abbrev pub words_got : Result (List ℕ) Refusal → List ℕ
words_got (Ok words) = words
words_got (Err r) = []

-- words of segments stored, so many of which are still of a segment, the next one at a place; outside the core none is
abbrev pub stored : (left place : ℕ) → List ℕ → List ℕ → List ℕ
stored left place [] core = core
stored zero place (w ∷ ws) core = stored (decrement_of w) (address_of w) ws core
stored (suc left) place (w ∷ ws) core = stored left (suc place) ws (slice_set core place w)

-- a deck's words in a core
unfoldable pub filled : List ℕ → List ℕ → List ℕ
filled words core = stored 0 0 (drop 1 words) core
