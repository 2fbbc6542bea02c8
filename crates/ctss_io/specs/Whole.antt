-- claim: what reading all and writing all say.
use Rattle.std.specs.Prelude.{◌≡◌, ◌<◌, ◌≤◌, ℕ, List, length, take, Option, None, Some, codes}
pub use Rattle.faults.specs.Faults.{WhereTold}
use Rattle.ctss_io.specs.declared.whole.ReadEnd.{ReadEnd}
use Rattle.ctss_io.specs.declared.whole.ReadEnd.TheVariants as ends
use Rattle.ctss_io.specs.Outside.{prepended, after}

-- a prefix of the text has come to what is held, where that is told
abbrev pub GrewByPrefix : Option (List ℕ) → List ℕ → Option (List ℕ) → Type 0
GrewByPrefix old text new = (n : ℕ) × (new ≡ after old (take n text))

-- a prefix of the text, shorter than the text, has come to what is held, where that is told
abbrev pub GrewByProperPrefix : Option (List ℕ) → List ℕ → Option (List ℕ) → Type 0
GrewByProperPrefix old text new = (n : ℕ) × (n < length text) × (new ≡ after old (take n text))

-- so many bytes have gone from the front of what is left, where that is told
abbrev pub ShrankBy : ℕ → Option (List ℕ) → Option (List ℕ) → Type 0
ShrankBy n old new = (bytes : List ℕ) × (length bytes ≡ n) × (old ≡ prepended bytes new)

-- at most so many bytes have gone from the front of what is left, where that is told
abbrev pub ShrankByAtMost : ℕ → Option (List ℕ) → Option (List ℕ) → Type 0
ShrankByAtMost n old new = (bytes : List ℕ) × (length bytes ≤ n) × (old ≡ prepended bytes new)

-- at least so many bytes are left, where that is told
abbrev pub HasAtLeast : ℕ → Option (List ℕ) → Type 0
HasAtLeast n None = Unit {0}
HasAtLeast n (Some rest) = n ≤ length rest

-- what is printed of the end of reading
abbrev pub message_of : ReadEnd → List ℕ
message_of ends.TooLong = codes "the input is too long"
message_of ends.Fault = codes "reading failed"
message_of ends.NoMemory = codes "memory ran out"
