-- claim: what the answers of a source and of a sink say.
use Rattle.std.specs.Prelude.{◌≡◌, ℕ, ◌≤◌, List, [], ◌++◌, take, Option, None, Some}
pub use Rattle.faults.specs.Faults.{Rose}
use Rattle.faults.specs.Faults.{one_further}
use Rattle.ctss_io.specs.declared.outside.Got.{Got}
use Rattle.ctss_io.specs.declared.outside.Got.TheVariants as got
use Rattle.ctss_io.specs.declared.outside.Took.{Took}
use Rattle.ctss_io.specs.declared.outside.Took.TheVariants as took

-- these bytes, and then what is left, where that is told
abbrev pub prepended : List ℕ → Option (List ℕ) → Option (List ℕ)
prepended bytes None = None
prepended bytes (Some rest) = Some (bytes ++ rest)

-- what is held, where that is told, and then these bytes
abbrev pub after : Option (List ℕ) → List ℕ → Option (List ℕ)
after None bytes = None
after (Some held) bytes = Some (held ++ bytes)

-- the bytes that a read gave, of its buffer
abbrev pub given : Got → List ℕ → List ℕ
given (got.Bytes n) buffer = take n buffer
given got.End buffer = []
given got.Failed buffer = []

-- a read that gave bytes gave at least one, and no more than there was room for
abbrev pub GotFits : Got → ℕ → Type 0
GotFits (got.Bytes n) room = (1 ≤ n) × (n ≤ room)
GotFits got.End room = Unit {0}
GotFits got.Failed room = Unit {0}

-- the bytes that a put took, of its piece
abbrev pub bytes_taken : Took → List ℕ → List ℕ
bytes_taken (took.Bytes n) piece = take n piece
bytes_taken took.Failed piece = []

-- a put that took bytes took at least one, and no more than the piece has
abbrev pub TookFits : Took → ℕ → Type 0
TookFits (took.Bytes n) size = (1 ≤ n) × (n ≤ size)
TookFits took.Failed size = Unit {0}

-- nothing is left, where that is told
abbrev pub IsAtEnd : Option (List ℕ) → Type 0
IsAtEnd None = Unit {0}
IsAtEnd (Some rest) = rest ≡ []

-- the count of faults after a read with this answer, where a failed read counts one
abbrev pub faults_after_got : Got → ℕ → ℕ
faults_after_got (got.Bytes n) faults = faults
faults_after_got got.End faults = faults
faults_after_got got.Failed faults = one_further faults

-- the count of faults after a put with this answer, where a failed put counts one
abbrev pub faults_after_took : Took → ℕ → ℕ
faults_after_took (took.Bytes n) faults = faults
faults_after_took took.Failed faults = one_further faults
