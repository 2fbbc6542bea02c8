-- What each move of a machine keeps is true where the machine comes to alone, over any feed.
use Rattle.std.proofs.Common.{◌≡◌, ℕ, zero, suc, ◌-◌, List, [], ◌∷◌, Option, Some, None, refl, sym, subst}
use Rattle.std.specs.Prelude.{fold}
use Rattle.time_sharing.specs.Machine.{Machine, Line, CutKind, Reply}
use Rattle.time_sharing.specs.Private.{FeedItem, Open, Typed, Cut, Feed, Alone, answered, next_alone, steps, run, after, alone}
use Rattle.time_sharing.proofs.Alone.{when_some, answered_was}

-- each move keeps this of a state
pub record EachKeeps {S : Type 0} (m : Machine S) (P : S → Type 0) : Type 0 where
  pub step : (p : S) (t : ℕ) (r : Reply) → P p → P (m.step p t r)
  pub typed : (p : S) (l : Line) → P p → P (m.typed p l)
  pub opened : (p : S) → P p → P (m.opened p)
  pub cut : (kind : CutKind) (p : S) → P p → P (m.cut kind p)

module _ {S : Type 0} (m : Machine S) (P : S → Type 0) (each : EachKeeps m P) where
  -- the next step
  next_keeps : (s e : Alone S) → next_alone m s ≡ Some e → P s.state → P e.state
  next_keeps s e is h =
      let was = answered_was m s e (when_some (m.can_step s.state) (answered m s) e is).1 in
      subst P (sym was.2) (each.step s.state was.0 was.1 h)

  -- any number of steps
  steps_keep : (n : ℕ) (s : Alone S) → P s.state → P (steps m n s).state
  steps_keep zero s h = h
  steps_keep (suc n) s h = by_next (steps_keep n) (next_alone m s) refl
    where
      by_next : ((e : Alone S) → P e.state → P (steps m n e).state) → (o : Option (Alone S)) → next_alone m s ≡ o
          → P (elim o as (λ x. Alone S) [ None ↦ s | Some e ↦ steps m n e ]).state
      by_next rest None is = h
      by_next rest (Some e) is = rest e (next_keeps s e is h)

  -- steps up to a number of own ones
  run_keeps : (k : ℕ) (s : Alone S) → P s.state → P (run m k s).state
  run_keeps k s h = steps_keep (k - m.own s.state) s h

  -- an item of a feed
  after_keeps : (s : Alone S) (item : FeedItem) → P s.state → P (after m s item).state
  after_keeps s (Open k) h = each.opened (run m k s).state (run_keeps k s h)
  after_keeps s (Typed l) h = each.typed s.state l h
  after_keeps s (Cut k kind) h = each.cut kind (run m k s).state (run_keeps k s h)

  -- all items of a feed
  items_keep : (items : List FeedItem) (s : Alone S) → P s.state → P (fold (after m) s items).state
  items_keep [] s h = h
  items_keep (item ∷ items) s h = items_keep items (after m s item) (after_keeps s item h)

  -- where the machine alone comes to
  pub alone_keeps : (first : S) (feed : Feed) → P first → P (alone m first feed).state
  alone_keeps first feed h =
      items_keep feed.items (record { state = first; clocks = feed.clocks; replies = feed.replies }) h
