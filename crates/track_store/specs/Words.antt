-- claim: what words of tracks are, one track after another, and which words the reads of a disk gave.
use Rattle.std.specs.Prelude.{◌≡◌, ℕ, List, [], ◌∷◌, ◌++◌, take, drop, slice_index_or, Option, None, Some}
use Rattle.faults.specs.Faults.{WhereTold}
use Rattle.medium.specs.Medium.{Call, CallList, with_record}

-- the words of a record
abbrev pub record_at : List (List ℕ) → ℕ → List ℕ
record_at contents t = slice_index_or contents t []

-- the words of these tracks, one after another
abbrev pub tracks_joined : List (List ℕ) → List ℕ → List ℕ
tracks_joined contents [] = []
tracks_joined contents (t ∷ ts) = record_at contents t ++ tracks_joined contents ts

-- the records with words written into these tracks, 432 each, where records are told
abbrev pub with_words : Option (List (List ℕ)) → List ℕ → List ℕ → Option (List (List ℕ))
with_words contents [] ws = contents
with_words contents (t ∷ ts) ws = with_words (with_record contents t (take 432 ws)) ts (drop 432 ws)

-- the words that the reads among these calls gave, one after another
abbrev pub given_by : List Call → List ℕ
given_by [] = []
given_by (c ∷ cs) = c.words ++ given_by cs

abbrev pub given : Option CallList → Option (List ℕ)
given None = None
given (Some calls) = Some (given_by calls.made)

-- between two moments the disk's reads gave these words, where its calls are told at the end
abbrev pub Gave : Option CallList → Option CallList → List ℕ → Type 0
Gave was now ws = WhereTold (given now) (λ after. (before : List ℕ) × (given was ≡ Some before) × (after ≡ before ++ ws))
