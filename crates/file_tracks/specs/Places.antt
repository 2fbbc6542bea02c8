-- claim: how often a track stands in a list of tracks, and whether it is taken.
use Rattle.std.specs.Prelude.{ℕ, ◌+◌, nat_eq, Bool, if◌then◌else◌, List, [], ◌∷◌}
use Rattle.track_store.specs.Tracks.{is_taken}

abbrev pub count_in : ℕ → List ℕ → ℕ
count_in t [] = 0
count_in t (x ∷ xs) = (if nat_eq x t then 1 else 0) + count_in t xs

-- 1 for a track that is taken
abbrev pub bit : List Bool → ℕ → ℕ
bit taken t = if is_taken taken t then 1 else 0
