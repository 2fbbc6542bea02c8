-- claim: a worked row: two scripts that differ in one user alone, and what the other user's clock tells.
use Rattle.std.specs.Prelude.{◌≡◌, ℕ, List, [], ◌∷◌, ◌++◌, get_or, codes}
use Rattle.ctss_types.specs.Words.{name_of}
use Rattle.ctss_types.specs.Params.{params_of}
use Rattle.ctss_types.specs.declared.script.Script.{Script}
use Rattle.ctss_types.specs.declared.script.Account.{Account}
use Rattle.ctss_types.specs.declared.script.Timed.{Timed}
use Rattle.ctss_types.specs.declared.script.Event.TheVariants as event
use Rattle.ctss_types.specs.declared.history.Item.{Item}
use Rattle.ctss_types.specs.declared.history.Item.TheVariants as item
use Rattle.time_sharing.specs.Private.{Feed}
use Rattle.time_sharing.specs.Feeds.{feed_of}
use Rattle.system_model.specs.Record.{record_of}

abbrev pub account : List ℕ → Account
account name = record { name = name_of name; password = name_of (codes "SESAME"); blocks = 8; tracks = 5 }

abbrev pub line_at : ℕ → ℕ → List ℕ → Timed
line_at tick console text = record { tick = tick; console = console; event = event.Line text }

-- a user is in at tick 0
abbrev pub comes_in : ℕ → List ℕ → List Timed
comes_in console name =
    record { tick = 0; console = console; event = event.Dial } ∷ line_at 0 console (codes "LOGIN " ++ name)
    ∷ line_at 0 console (codes "SESAME") ∷ []

-- ALFA and BETA are in, and then this comes
abbrev pub two_users : List Timed → Script
two_users events =
    record {
      params = params_of (1024 ∷ 100 ∷ 10 ∷ 16 ∷ 20 ∷ 5 ∷ []);
      accounts = account (codes "ALFA") ∷ account (codes "BETA") ∷ [];
      files = [];
      events = comes_in 1 (codes "ALFA") ++ (comes_in 2 (codes "BETA") ++ events);
      end = 100;
    }

-- ALFA logs out at tick 20. BETA does nothing; or logs out later; or at the same tick, and first.
abbrev pub quiet : Script
quiet = two_users (line_at 20 1 (codes "LOGOUT") ∷ [])

abbrev pub later : Script
later = two_users (line_at 20 1 (codes "LOGOUT") ∷ line_at 40 2 (codes "LOGOUT") ∷ [])

abbrev pub sooner : Script
sooner = two_users (line_at 20 2 (codes "LOGOUT") ∷ line_at 20 1 (codes "LOGOUT") ∷ [])

-- what comes to a user, and what the user sees
abbrev pub feed_in : Script → ℕ → Feed
feed_in script u = feed_of u script.events (record_of script).entries

abbrev pub seen_in : Script → ℕ → List Item
seen_in script u = get_or (record_of script).transcripts u []

-- What comes to ALFA is the same whether BETA does nothing or logs out later, and so is what ALFA sees, though BETA sees something else. Where
-- BETA is served first, ALFA's clock tells.
pub record RowOfOthers : Type 0 where
  pub feeds : feed_in quiet 1 ≡ feed_in later 1
  pub sees : seen_in quiet 0 ≡ seen_in later 0
  pub quiet_is : seen_in quiet 1 ≡ item.Out (codes "BETA LOGGED IN") ∷ []
  pub later_is : seen_in later 1 ≡ item.Out (codes "BETA LOGGED IN") ∷ item.In (codes "LOGOUT")
      ∷ item.Out (codes "W 0000.0") ∷ item.Out (codes "BETA LOGGED OUT") ∷ []
  pub told : (feed_in quiet 1).clocks ≡ 20 ∷ []
  pub told_late : (feed_in sooner 1).clocks ≡ 21 ∷ []
