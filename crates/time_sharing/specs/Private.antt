-- claim: one user's machine alone: no ticks, no queue and no other users.
use Rattle.std.specs.Prelude.{ℕ, zero, suc, ◌-◌, Bool, true, false, List, [], ◌∷◌, Option, Some, None, is_some, fold}
use Rattle.time_sharing.specs.Machine.{Machine, CutKind, Line, Reply, Done}

-- what comes to one user. Open and Cut say after how many of the user's own steps
pub data FeedItem : Type 0 where
  Open : (own : ℕ) → FeedItem
  Typed : (line : Line) → FeedItem
  Cut : (own : ℕ) (kind : CutKind) → FeedItem

pub record Feed : Type 0 where
  pub items : List FeedItem
  pub clocks : List ℕ
  pub replies : List Reply

-- a private state, with the answers that it hasn't taken
pub record Alone (S : Type 0) : Type 0 where
  pub state : S
  pub clocks : List ℕ
  pub replies : List Reply

-- A step takes the next answer where it asks for one. Without the answer it can't be done.
abbrev pub with_reply : {X : Type 0} → Bool → List Reply → (Reply → List Reply → Option X) → Option X
with_reply false rs k = k Done rs
with_reply true [] k = None
with_reply true (r ∷ rs) k = k r rs

abbrev pub with_clock : {X : Type 0} → Bool → List ℕ → (ℕ → List ℕ → Option X) → Option X
with_clock false ts k = k 0 ts
with_clock true [] k = None
with_clock true (t ∷ ts) k = k t ts

abbrev pub when : {X : Type 0} → Bool → Option X → Option X
when false x = None
when true x = x

-- the step with the answers that it asks for
abbrev pub answered : {S : Type 0} (m : Machine S) → Alone S → Option (Alone S)
answered m s =
    with_clock (m.asks_clock s.state) s.clocks (λ t ts.
    with_reply (is_some (m.asks_common s.state)) s.replies (λ r rs.
    Some (record { state = m.step s.state t r; clocks = ts; replies = rs })))

-- the next step, or nothing where it can't be done
abbrev pub next_alone : {S : Type 0} (m : Machine S) → Alone S → Option (Alone S)
next_alone m s = when (m.can_step s.state) (answered m s)

-- at most n steps, as long as one can be done
abbrev pub steps : {S : Type 0} (m : Machine S) → ℕ → Alone S → Alone S
steps m zero s = s
steps m (suc n) s = elim (next_alone m s) [ None ↦ s | Some e ↦ steps m n e ]

-- up to k own steps
abbrev pub run : {S : Type 0} (m : Machine S) → ℕ → Alone S → Alone S
run m k s = steps m (k - m.own s.state) s

abbrev pub after : {S : Type 0} (m : Machine S) → Alone S → FeedItem → Alone S
after m s (Open k) = let e = run m k s in record e { state = m.opened e.state }
after m s (Typed l) = record s { state = m.typed s.state l }
after m s (Cut k kind) = let e = run m k s in record e { state = m.cut kind e.state }

-- the whole feed, from the first state
abbrev pub alone : {S : Type 0} (m : Machine S) → S → Feed → Alone S
alone m first feed = fold (after m) (record { state = first; clocks = feed.clocks; replies = feed.replies }) feed.items
