-- proof: a source and a sink in memory, as contracts see them, and what each call makes of them.
use Rattle.std.specs.Prelude.{ℕ, Bool, ◌-◌, min, nat_eq, nat_le, if◌then◌else◌, List, ◌++◌, length, take, drop}
use Rattle.std.specs.List.{list_any}
use Rattle.faults.specs.Faults.{one_further}
use Rattle.ctss_io.specs.declared.outside.Got.{Got}
use Rattle.ctss_io.specs.declared.outside.Got.TheVariants as got
use Rattle.ctss_io.specs.declared.outside.Took.{Took}
use Rattle.ctss_io.specs.declared.outside.Took.TheVariants as took
use Rattle.ctss_io.specs.Outside.{bytes_taken, faults_after_got, faults_after_took}

-- a source in memory
pub record SourceState : Type 0 where
  -- the bytes left
  pub left : List ℕ
  -- the most bytes that a read gives
  pub piece : ℕ
  -- the numbers, from 1, of the reads that fail
  pub fails : List ℕ
  -- how many reads there were, and how many of them failed
  pub calls : ℕ
  pub faults : ℕ

-- a sink in memory
pub record SinkState : Type 0 where
  -- the bytes held
  pub held : List ℕ
  -- the most bytes that it holds
  pub room : ℕ
  -- the most bytes that a put takes
  pub piece : ℕ
  -- the numbers, from 1, of the puts that fail
  pub fails : List ℕ
  -- how many puts there were, and how many of them failed
  pub calls : ℕ
  pub faults : ℕ

-- whether the next call is one of those that fail
abbrev pub fails_next : List ℕ → ℕ → Bool
fails_next fails calls = list_any (λ n. nat_eq n (one_further calls)) fails

-- how many bytes the next read gives, where it gives any
abbrev pub piece_of : SourceState → ℕ → ℕ
piece_of s room = min (min s.piece room) (length s.left)

-- what the next read answers, into so much room
abbrev pub answer_of_read : SourceState → ℕ → Got
answer_of_read s room =
    if fails_next s.fails s.calls then got.Failed
    else (if nat_eq (length s.left) 0 then got.End else got.Bytes (piece_of s room))

-- how many bytes a read gave
abbrev pub count_given : Got → ℕ
count_given (got.Bytes n) = n
count_given got.End = 0
count_given got.Failed = 0

-- a source after a read that gave this answer
abbrev pub source_after : SourceState → Got → SourceState
source_after s answer =
    record s {
      left = drop (count_given answer) s.left;
      calls = one_further s.calls;
      faults = faults_after_got answer s.faults;
    }

-- a buffer after a read that gave this answer, of these bytes
abbrev pub buffer_after : List ℕ → Got → List ℕ → List ℕ
buffer_after left answer buffer = take (count_given answer) left ++ drop (count_given answer) buffer

-- how many bytes the next put takes of a piece of this size, where it takes any
abbrev pub size_of : SinkState → ℕ → ℕ
size_of s size = min s.piece size

-- what the next put answers, of a piece of this size
abbrev pub answer_of_put : SinkState → ℕ → Took
answer_of_put s size =
    if fails_next s.fails s.calls then took.Failed
    else (if nat_le (size_of s size) (s.room - length s.held) then took.Bytes (size_of s size) else took.Failed)

-- a sink after a put of this piece that gave this answer
abbrev pub sink_after : SinkState → List ℕ → Took → SinkState
sink_after s piece answer =
    record s {
      held = s.held ++ bytes_taken answer piece;
      calls = one_further s.calls;
      faults = faults_after_took answer s.faults;
    }
