-- proof: the words of a core and its blocks.
use Rattle.std.specs.Prelude.{ℕ, ◌+◌, ◌*◌, ◌^◌, ◌<◌, List, ◌++◌, take, drop, slice_range, replicate}
use Rattle.std.specs.List.{All}
use Rattle.std.specs.Borrow.{Lends, MutBor, Fml, Array, u64}
use Rattle.core_bank.specs.Parts.{with_middle, with_words}
use Rattle.core_bank.specs.contracts.Bank.{the_row}

-- each is a word of 36 bits
abbrev pub AreWords : List ℕ → Type 0
AreWords words = All (λ w. w < 2 ^ 36) words

-- the words of a block
abbrev pub block_at : List ℕ → ℕ → List ℕ
block_at words block = slice_range words (256 * block) (256 * block + 256)

-- a block of plus zeros; no proof that merely passes it on writes it out
unfoldable pub blank : List ℕ
blank = replicate 256 0

-- the words with others in one block
abbrev pub with_block : List ℕ → ℕ → List ℕ → List ℕ
with_block words block ws = take (256 * block) words ++ ws ++ drop (256 * block + 256) words

-- a bank lends so many blocks from one on
abbrev pub LendsWindow : MutBor (List ℕ) → ℕ → ℕ → MutBor (List ℕ) → Fml
LendsWindow bank base blocks window = Lends the_row (Array u64 0) bank window (λ ws. with_middle bank.now (256 * base) (256 * base + 256 * blocks) ws)

-- a bank lends all its words
abbrev pub LendsWords : MutBor (List ℕ) → MutBor (List ℕ) → Fml
LendsWords bank words = Lends the_row (Array u64 0) bank words (λ ws. with_words bank.now ws)
