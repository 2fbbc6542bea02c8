-- claim: what a record and its script say came to one user.
use Rattle.std.specs.Prelude.{ℕ, pred, ◌+◌, if◌then◌else◌, nat_eq, List, [], ◌∷◌, ◌++◌, Option, Some, None, fold}
use Rattle.time_sharing.specs.Machine.{Quit, Hang, Spent, End, Line, Reply}
use Rattle.time_sharing.specs.Private.{FeedItem, Open, Typed, Cut, Feed}
use Rattle.time_sharing.specs.System.{Cause, Time, Wait, Stop, Size, Preempt, AtEnd, Entry, Taken, Login, Serve, Clock, Common, EventKind, DialTaken, LineTaken, QuitTaken, HangTaken, SpentTaken, Event, Dials, Types, Quits, Hangs, Timed, Service}

-- what the entries so far say of a user: the events that none of them took, the own steps, and the feed
pub record Observed : Type 0 where
  pub left : List Timed
  pub own : ℕ
  pub items : List FeedItem
  pub clocks : List ℕ
  pub replies : List Reply

abbrev pub rest_of : List Timed → List Timed
rest_of [] = []
rest_of (e ∷ es) = es

-- the text of a line
abbrev pub text_of : Event → Line
text_of Dials = []
text_of (Types l) = l
text_of Quits = []
text_of Hangs = []

abbrev pub first_text : List Timed → Line
first_text [] = []
first_text (e ∷ es) = text_of e.event

-- what a Taken entry of the user gives
abbrev pub feed_items : EventKind → ℕ → Line → List FeedItem
feed_items DialTaken own l = []
feed_items LineTaken own l = Typed l ∷ []
feed_items QuitTaken own l = Cut own Quit ∷ []
feed_items HangTaken own l = Cut own Hang ∷ []
feed_items SpentTaken own l = Cut own Spent ∷ []

-- the own steps of a service
abbrev pub steps_of : Cause → ℕ → ℕ
steps_of Time ran = ran
steps_of Wait ran = pred ran
steps_of Stop ran = ran
steps_of Size ran = ran
steps_of Preempt ran = ran
steps_of AtEnd ran = ran

-- xs, and behind it what is the user's own
abbrev pub mine : {A : Type 0} → ℕ → ℕ → List A → List A → List A
mine u v xs more = if nat_eq v u then xs ++ more else xs

abbrev pub observe : ℕ → Observed → Entry → Observed
observe u o (Taken tick console kind v own) = record o { left = rest_of o.left; items = mine u v o.items (feed_items kind own (first_text o.left)) }
observe u o (Login tick console v) = record o { items = mine u v o.items (Open o.own ∷ []) }
observe u o (Serve tick v level ran cause) = record o { own = if nat_eq v u then o.own + steps_of cause ran else o.own }
observe u o (Clock answer v) = record o { clocks = mine u v o.clocks (answer ∷ []) }
observe u o (Common v op reply) = record o { replies = mine u v o.replies (reply ∷ []) }
observe u o _ = o

abbrev pub observed : ℕ → List Timed → List Entry → Observed
observed u events entries = fold (observe u) (record { left = events; own = 0; items = []; clocks = []; replies = [] }) entries

abbrev pub feed_of : ℕ → List Timed → List Entry → Feed
feed_of u events entries = let o = observed u events entries in record { items = o.items ++ Cut o.own End ∷ []; clocks = o.clocks; replies = o.replies }

-- the ticks of u's open service
abbrev pub ran_of : ℕ → Option Service → ℕ
ran_of u None = 0
ran_of u (Some v) = if nat_eq v.user u then v.ran else 0
