-- proof: what a user's console was told, and what was typed ahead.
use Rattle.std.specs.Prelude.{ℕ, List}
use Rattle.time_sharing.specs.Machine.{Item, Line}

-- the transcript, how many items have room in it, the unread lines, and how many lines came in the session
pub record Said : Type 0 where
  pub transcript : List Item
  pub capacity : ℕ
  pub unread : List Line
  pub lines : ℕ
  -- how many of the unread lines are a command file's; these stand first
  pub fed : ℕ
