-- proof: what damages do to a read.
use Rattle.std.specs.Prelude.{ℕ, Bool, true, ◌^◌, ◌<◌, nat_eq, if◌then◌else◌, List, [], ◌∷◌, slice_set, Option, None, Some}
use Rattle.medium.specs.declared.memory.Damage.{Damage}

-- whether a damage is to the read with this number
abbrev pub hits : Option ℕ → ℕ → Bool
hits None read = true
hits (Some n) read = nat_eq n read

-- what the read with this number gives of a record's words: the damages' words in their places, the last one last
abbrev pub damaged_words : List Damage → ℕ → List ℕ → List ℕ
damaged_words [] read ws = ws
damaged_words (d ∷ ds) read ws = damaged_words ds read (if hits d.read read then slice_set ws d.place d.word else ws)

-- a damage lies inside a record of so many words, and its word has 36 bits
pub record IsDamage (n : ℕ) (d : Damage) : Type 0 where
  pub place : d.place < n
  pub word : d.word < 2 ^ 36
