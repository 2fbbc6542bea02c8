-- proof: what the fields of a list of calls in memory stand for.
use Rattle.std.specs.Prelude.{◌≡◌, ℕ, ◌+◌, ◌*◌, ◌≤◌, if◌then◌else◌, List, [], ◌∷◌, length, take, drop, None, Some, vec_capacity}
use Rattle.medium.specs.Medium.{Call}
use Rattle.medium.specs.LogState.{LogState}
use Rattle.medium.specs.declared.log.Made.{Made}
use Rattle.medium.specs.declared.log.CallLog.TheInside.{Inside}

-- the calls that these heads stand for, with their words cut off one after another
abbrev pub calls_of : List Made → List ℕ → List Call
calls_of [] words = []
calls_of (m ∷ ms) words =
    record { is_write = m.is_write; at = m.at; failed = m.failed; words = take m.len words } ∷ calls_of ms (drop m.len words)

-- how many words these calls gave
abbrev pub size_of : List Made → ℕ
size_of [] = 0
size_of (m ∷ ms) = m.len + size_of ms

-- the calls, where told, and how many words one may give
abbrev pub log_state : Inside → LogState
log_state l = record {
  calls = (if l.tells then Some (record { made = calls_of l.made.items l.given.items; room = l.room }) else None);
  words_each = l.words_each;
}

-- the words are those of the heads, and the memory that was taken holds as many calls more as there is room for
pub record HasRoom (l : Inside) : Type 0 where
  pub words : length l.given.items ≡ size_of l.made.items
  pub heads : length l.made.items + l.room ≤ vec_capacity l.made
  pub room : length l.given.items + l.room * l.words_each ≤ vec_capacity l.given
