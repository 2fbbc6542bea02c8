-- proof: words that were written into the tracks of a file.
use Rattle.std.specs.Prelude.{◌≡◌, ℕ, ◌+◌, ◌-◌, ◌*◌, ◌/◌, ◌^◌, ◌<◌, ◌≤◌, ◌++◌, Bool, List, length, take, drop, min, replicate, Option}
use Rattle.faults.specs.Faults.{WhereTold}
use Rattle.file_model.specs.Files.{overwritten}
use Rattle.track_store.specs.Tracks.{count_taken}
use Rattle.track_store.specs.Words.{tracks_joined, with_words}
use Rattle.file_tracks.specs.Places.{count_in, bit}

-- tracks that can be given back while so many are taken
pub record CanRetake (taken : List Bool) (had : List ℕ) (count : ℕ) : Type 0 where
  pub bits : (t : ℕ) → count_in t had ≤ bit taken t
  pub free : count_taken taken + count ≤ length taken + length had

-- so many tracks stand where others stood: just they were taken, and those given back
pub record AreRetaken (taken taken' : List Bool) (had has : List ℕ) (count : ℕ) : Type 0 where
  pub len : length has ≡ count
  pub bits : (t : ℕ) → count_in t has + bit taken t ≡ count_in t had + bit taken' t
  pub counts : count_taken taken' + length had ≡ count_taken taken + count

-- words were written into these tracks, with something behind them
pub record AreWritten (words tracks : List ℕ) (old new : Option (List (List ℕ))) : Type 0 where
  pub bits : List ℕ
  pub whole : length bits ≡ 432 * length tracks
  pub front : take (length words) bits ≡ words
  pub contents : new ≡ with_words old tracks bits

-- the first track that words from a place on take
abbrev pub from_track : ℕ → ℕ
from_track place = place / 432

-- the track behind the last one that so many words from a place on take
abbrev pub to_track : ℕ → ℕ → ℕ
to_track place count = (place + count + 431) / 432

-- what tracks from one on to another hold, and zeros where there are fewer tracks
abbrev pub held : List (List ℕ) → List ℕ → ℕ → ℕ → List ℕ
held contents tracks from to =
    tracks_joined contents (take (min to (length tracks) - from) (drop from tracks))
    ++ replicate (432 * (to - from) - 432 * length (take (min to (length tracks) - from) (drop from tracks))) 0

-- words from a place on fit into so many tracks, which are no fewer than these
pub record FitsOver (place : ℕ) (words tracks : List ℕ) (count : ℕ) : Type 0 where
  pub more : length tracks ≤ count
  pub small : 432 * count < 2 ^ 64
  pub inside : place + length words ≤ 432 * count

-- words were laid from a place on over what tracks held, and written into these tracks, which begin with those
pub record AreWrittenOver (place : ℕ) (words had has : List ℕ) (old new : Option (List (List ℕ))) : Type 0 where
  pub bits : List ℕ
  pub whole : length bits ≡ 432 * (to_track place (length words) - from_track place)
  pub told : WhereTold old (λ contents. bits ≡ overwritten (place - 432 * from_track place) words
      (held contents had (from_track place) (to_track place (length words))))
  pub contents : new ≡ with_words old (take (to_track place (length words) - from_track place) (drop (from_track place) has)) bits
