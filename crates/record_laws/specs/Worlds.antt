-- claim: what the law of every machine and world asks of one.
use Rattle.std.specs.Prelude.{◌≡◌, ◌≢◌, ℕ, ◌+◌, ◌*◌, false}
use Rattle.time_sharing.specs.Machine.{Machine, Line, CutKind, Went, Reply}
use Rattle.time_sharing.specs.System.{World, clock_for}

-- What a machine and a world owe, so that no load falls into a service: who is loaded stays so while being served. For
-- that a user stays loaded after its own lines and logins, after its steps that go on and their charge, after
-- anybody's rise or line, and after another's cut.
pub record StaysLoaded {State Plan Files : Type 0} (m : Machine State) (w : World State Plan Files) : Type 0 where
  pub typed : (plan : Plan) (u : ℕ) (p : State) (l : Line) → w.must_load plan u p ≡ false
      → w.must_load plan u (m.typed p l) ≡ false
  pub opened : (plan : Plan) (u : ℕ) (p : State) → w.must_load plan u p ≡ false
      → w.must_load plan u (m.opened p) ≡ false
  pub went : (plan : Plan) (u : ℕ) (p : State) (t : ℕ) (r : Reply)
      → m.ending p (clock_for (m.asks_clock p) t) r ≡ Went → w.must_load plan u p ≡ false
      → w.must_load plan u (m.step p (clock_for (m.asks_clock p) t) r) ≡ false
  pub charged : (plan : Plan) (u : ℕ) (p q : State) (now : ℕ) → w.must_load plan u q ≡ false
      → w.must_load (w.gave_up (w.charged plan u now) u p Went now) u q ≡ false
  pub risen : (plan : Plan) (u v level : ℕ) (q : State) (now : ℕ) → w.must_load plan u q ≡ false
      → w.must_load (w.risen plan v level now) u q ≡ false
  pub line : (plan : Plan) (u v : ℕ) (was p q : State) (now : ℕ) → w.must_load plan u q ≡ false
      → w.must_load (w.line_came plan v was p now) u q ≡ false
  pub cut : (plan : Plan) (u v : ℕ) (kind : CutKind) (p q : State) (now : ℕ) → u ≢ v
      → w.must_load plan u q ≡ false → w.must_load (w.cut_came plan v kind p now) u q ≡ false

-- a load takes so many ticks for each block that it moves
abbrev pub Costs : {State Plan Files : Type 0} → (swap : ℕ) → World State Plan Files → Type 0
Costs {State = State} {Plan = Plan} swap w =
    (plan : Plan) (u : ℕ) (p : State) →
    let o = w.move plan u p in
    o.ticks ≡ swap * (o.dumped + o.read)
