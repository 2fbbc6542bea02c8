-- claim: what the public functions of this crate claim, over any types of states, plans and files.
use Rattle.std.specs.Prelude.{◌≡◌, ℕ, ◌+◌, ◌≤◌, ◌<◌, true, false, List, [], ◌∷◌, ◌++◌, nat_lt, length}
use Rattle.time_sharing.specs.Machine.{Machine, Laws, End}
use Rattle.time_sharing.specs.Rows.{Rows, Private, machine}
use Rattle.time_sharing.specs.System.{SystemState, World, Timed, state_of, next, ended, at}
use Rattle.time_sharing.specs.Private.{Cut}
use Rattle.time_sharing.specs.Reach.{LeadsTo}
use Rattle.time_sharing.specs.Feeds.{feed_of, observed, ran_of}
use Rattle.time_sharing.specs.Commons.{operations_of, replies_of, common_run, files_left}
use Rattle.time_sharing.specs.Texts.{Watched, watched_to}
use Rattle.time_sharing.specs.Record.{start, iterate, run_to, measure, Ends, IsAlone, with_events, AreLate}

-- after any number of steps and the end of the record, a user's state is that of the user's machine alone
abbrev pub AllIsolated : (S P F : Type 0) → Type 0
AllIsolated S P F =
    (m : Machine S) → Laws m → (w : World S P F) (u : ℕ) → 0 < u → (firsts : List S) (files : F) (plan : P) (consoles limit n : ℕ) (events : List Timed) →
    u ≤ length firsts → m.own (at w.nobody firsts u) ≡ 0 →
    let s = ended m w (iterate m w limit n (start m w firsts files plan consoles events)) in
    IsAlone m (at w.nobody firsts u) (feed_of u events s.entries) (state_of m w s u)

-- machines made of rows owe nothing more
abbrev pub RowsIsolated : (A P F : Type 0) → Type 0
RowsIsolated A P F =
    (rows : Rows A) (w : World (Private A) P F) (u : ℕ) → 0 < u → (firsts : List (Private A)) (files : F) (plan : P) (consoles limit n : ℕ) (events : List Timed) →
    u ≤ length firsts → (at w.nobody firsts u).own ≡ 0 →
    let s = ended (machine rows) w (iterate (machine rows) w limit n (start (machine rows) w firsts files plan consoles events)) in
    IsAlone (machine rows) (at w.nobody firsts u) (feed_of u events s.entries) (state_of (machine rows) w s u)

-- each step comes nearer to the limit, and the whole run is one step and then the whole run
pub record RunsEnd {S P F : Type 0} (m : Machine S) (w : World S P F) : Type 0 where
  pub falls : (limit : ℕ) (s : SystemState S P F) → nat_lt s.clock limit ≡ true → measure m w limit (next m w limit s) < measure m w limit s
  pub step : (limit : ℕ) (s : SystemState S P F) → nat_lt s.clock limit ≡ true → run_to m w limit (next m w limit s) ≡ run_to m w limit s
  pub done : (limit : ℕ) (s : SystemState S P F) → nat_lt s.clock limit ≡ false → run_to m w limit s ≡ s

abbrev pub AllRunsEnd : (S P F : Type 0) → Type 0
AllRunsEnd S P F = (m : Machine S) (w : World S P F) → Ends w → RunsEnd m w

-- the replies in a record, and the common files at its end, are those of one list of files
abbrev pub CommonsAreOne : (S P F : Type 0) → Type 0
CommonsAreOne S P F =
    (m : Machine S) (w : World S P F) (firsts : List S) (files : F) (plan : P) (consoles limit n : ℕ) (events : List Timed) →
    let e = ended m w (iterate m w limit n (start m w firsts files plan consoles events)) in
    (replies_of e.entries ≡ common_run w files (operations_of e.entries)) × (e.files ≡ files_left w files (operations_of e.entries))

-- a run in parts is the whole run
abbrev pub RunsInParts : (S P F : Type 0) → Type 0
RunsInParts S P F = (m : Machine S) (w : World S P F) → Ends w → (j k : ℕ) (s : SystemState S P F) → j ≤ k → run_to m w k (run_to m w j s) ≡ run_to m w k s

-- two runs, in worlds of any kinds, that agree in a user's first state and feed agree in the user's last state
abbrev pub FeedsDecide : (S P F Q G : Type 0) → Type 0
FeedsDecide S P F Q G =
    (m : Machine S) → Laws m → (w : World S P F) (x : World S Q G) (u v : ℕ) → 0 < u → 0 < v →
    (firsts : List S) (files : F) (plan : P) (consoles limit n : ℕ) (events : List Timed) → u ≤ length firsts → m.own (at w.nobody firsts u) ≡ 0 →
    (firsts' : List S) (files' : G) (plan' : Q) (consoles' limit' n' : ℕ) (events' : List Timed) → v ≤ length firsts' → m.own (at x.nobody firsts' v) ≡ 0 →
    let s = ended m w (iterate m w limit n (start m w firsts files plan consoles events)) in
    let t = ended m x (iterate m x limit' n' (start m x firsts' files' plan' consoles' events')) in
    at w.nobody firsts u ≡ at x.nobody firsts' v → feed_of u events s.entries ≡ feed_of v events' t.entries → state_of m w s u ≡ state_of m x t v

-- At each moment the feed so far, cut after the user's own steps, leads just there: each Open and Cut is reached
-- after just its number of own steps, and each answer is taken. The count is that of the entries and the open service.
abbrev pub EachMomentIsAlone : (S P F : Type 0) → Type 0
EachMomentIsAlone S P F =
    (m : Machine S) → Laws m → (w : World S P F) (u : ℕ) → 0 < u → (firsts : List S) (files : F) (plan : P) (consoles limit n : ℕ) (events : List Timed) →
    u ≤ length firsts → m.own (at w.nobody firsts u) ≡ 0 →
    let s = iterate m w limit n (start m w firsts files plan consoles events) in
    let o = observed u events s.entries in
    let p = state_of m w s u in
    LeadsTo m (o.items ++ Cut (m.own p) End ∷ []) (record { state = at w.nobody firsts u; clocks = o.clocks; replies = o.replies }) (record { state = p; clocks = []; replies = [] })
    × (m.own p ≡ o.own + ran_of u s.service)

-- a run, then events at its limit or later, then a longer run: as if the events had been there from the first
abbrev pub LateEventsWait : (S P F : Type 0) → Type 0
LateEventsWait S P F = (m : Machine S) (w : World S P F) → Ends w → (es : List Timed) (j k : ℕ) (s : SystemState S P F) → j ≤ k → AreLate j es → run_to m w k (with_events es (run_to m w j s)) ≡ run_to m w k (with_events es s)

-- to watch the consoles changes nothing
abbrev pub WatchingIsStill : (S P F : Type 0) → Type 0
WatchingIsStill S P F = (m : Machine S) (w : World S P F) (limit : ℕ) (x : Watched S P F) → (watched_to m w limit x).system ≡ run_to m w limit x.system
