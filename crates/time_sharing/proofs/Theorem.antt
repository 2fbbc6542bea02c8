-- Isolation of whole runs.
use Rattle.std.proofs.Common.{◌≡◌, ℕ, zero, suc, ◌+◌, ◌≤◌, ◌<◌, true, false, nat_lt, List, [], ◌∷◌, ◌++◌, Option, Some, None, refl, sym, ap, subst, ◌∙◌, arith, length, replicate, inl}
use Rattle.time_sharing.specs.Machine.{Machine, Laws, End}
use Rattle.time_sharing.specs.Private.{Cut}
use Rattle.time_sharing.specs.Reach.{LeadsTo}
use Rattle.time_sharing.specs.System.{SystemState, World, Timed, Service, Off, Session, at, state_of, next, ended, end_open, end_idling_of}
use Rattle.time_sharing.specs.Feeds.{observed, feed_of, ran_of}
use Rattle.time_sharing.specs.Repeat.{repeat}
use Rattle.time_sharing.specs.Record.{clock_is_below, iterate, start, IsAlone}
use Rattle.time_sharing.proofs.Runs as runs
use Rattle.time_sharing.proofs.Isolation.{run_here, settled, starts}
use Rattle.time_sharing.proofs.Steps.{Inv, inv_next, inv_ended}

off_at : (n k : ℕ) → at Off (replicate n Off) k ≡ Off
off_at n zero = refl
off_at zero (suc k) = refl
off_at (suc n) (suc zero) = refl
off_at (suc n) (suc (suc k)) = off_at n (suc k)

module _ {S P F : Type 0} (m : Machine S) (laws : Laws m) (w : World S P F) (u : ℕ) (pos : 0 < u) where
  -- the machine of all users starts as it has to
  inv_start : (firsts : List S) (files : F) (plan : P) (consoles : ℕ) (events : List Timed) → u ≤ length firsts → (own : m.own (at w.nobody firsts u) ≡ 0) →
      Inv m w (at w.nobody firsts u) u events [] (start m w firsts files plan consoles events)
  inv_start firsts files plan consoles events inside own =
      record {
        inside = inside;
        holds = record {
          left_is = refl;
          own = own;
          mid = settled m (at w.nobody firsts u);
          goes = refl;
          count = 0;
          reaches = refl;
          live = λ c e. absurd (never (sym (off_at consoles c) ∙ e));
          served = inl refl;
        };
      }
    where
      never : Off ≡ Session u → ⊥
      never e = cc

  inv_iterate : (first : S) (events : List Timed) (limit n : ℕ) (s : SystemState S P F) → Inv m w first u events [] s → Inv m w first u events [] (iterate m w limit n s)
  inv_iterate first events limit zero s i = i
  inv_iterate first events limit (suc n) s i = elim (nat_lt s.clock limit) as (λ b. Inv m w first u events [] (elim b [ true ↦ repeat (clock_is_below m w limit) (next m w limit) n (next m w limit s) | false ↦ s ]))
      [ true ↦ inv_iterate first events limit n (next m w limit s) (inv_next m laws w first u pos events limit s i) | false ↦ i ]

  -- at each moment: the feed so far, cut after the user's own steps
  pub goes_here : (first : S) (events : List Timed) (s : SystemState S P F) → Inv m w first u events [] s →
      let o = observed u events s.entries in
      LeadsTo m (o.items ++ Cut (m.own (state_of m w s u)) End ∷ []) (starts m first o) (settled m (state_of m w s u))
  goes_here first events s i =
      let o = observed u events s.entries in
      let p = state_of m w s u in
      runs.goes_on m laws o.items (Cut (m.own p) End ∷ []) (starts m first o) i.holds.mid _ i.holds.goes
      (settled m p, run_here m laws first u _ p _ s.consoles o i.holds, refl, ap (settled m) (laws.at_end p))

  -- where no service is open: the whole feed
  pub alone_here : (first : S) (events : List Timed) (s : SystemState S P F) → s.service ≡ None → Inv m w first u events [] s → IsAlone m first (feed_of u events s.entries) (state_of m w s u)
  alone_here first events s none i =
      let o = observed u events s.entries in
      let p = state_of m w s u in
      let k : m.own p ≡ o.own = omega (arith, i.holds.own, ap (ran_of u) none) in
      runs.goes_alone m laws (o.items ++ Cut o.own End ∷ []) (starts m first o) (settled m p)
      (subst (λ z. LeadsTo m (o.items ++ Cut z End ∷ []) (starts m first o) (settled m p)) k (goes_here first events s i))

  none_open : (s : SystemState S P F) → (ended m w s).service ≡ None
  none_open s = by_service s.service refl
    where
      idle : (t : SystemState S P F) (idling : Option ℕ) → (end_idling_of m w idling t).service ≡ t.service
      idle t None = refl
      idle t (Some from) = refl

      by_service : (service : Option Service) → s.service ≡ service → (let t = end_open m w service s in end_idling_of m w t.idling t).service ≡ None
      by_service None e = idle s s.idling ∙ e
      by_service (Some v) e = idle (end_open m w (Some v) s) s.idling

  -- Isolation: after any number of steps, and the end of the record
  pub isolation : (firsts : List S) (files : F) (plan : P) (consoles limit n : ℕ) (events : List Timed) → u ≤ length firsts → m.own (at w.nobody firsts u) ≡ 0 →
      let s = ended m w (iterate m w limit n (start m w firsts files plan consoles events)) in
      IsAlone m (at w.nobody firsts u) (feed_of u events s.entries) (state_of m w s u)
  isolation firsts files plan consoles limit n events inside own =
      let e = iterate m w limit n (start m w firsts files plan consoles events) in
      alone_here (at w.nobody firsts u) events (ended m w e) (none_open e) (inv_ended m laws w (at w.nobody firsts u) u pos events e (inv_iterate (at w.nobody firsts u) events limit n (start m w firsts files plan consoles events) (inv_start firsts files plan consoles events inside own)))

  -- each moment of a run
  pub moment : (firsts : List S) (files : F) (plan : P) (consoles limit n : ℕ) (events : List Timed) → u ≤ length firsts → m.own (at w.nobody firsts u) ≡ 0 →
      let s = iterate m w limit n (start m w firsts files plan consoles events) in
      let o = observed u events s.entries in
      let p = state_of m w s u in
      LeadsTo m (o.items ++ Cut (m.own p) End ∷ []) (starts m (at w.nobody firsts u) o) (settled m p) × (m.own p ≡ o.own + ran_of u s.service)
  moment firsts files plan consoles limit n events inside own =
      let s = iterate m w limit n (start m w firsts files plan consoles events) in
      let i = inv_iterate (at w.nobody firsts u) events limit n (start m w firsts files plan consoles events) (inv_start firsts files plan consoles events inside own) in
      (goes_here (at w.nobody firsts u) events s i, i.holds.own)
