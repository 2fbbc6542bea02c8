use Rattle.std.proofs.Common.{◌≡◌, ℕ, zero, suc, ◌+◌, true, List, [], ◌∷◌, ◌++◌, Some, fold, refl, sym, ap, subst, ◌∙◌, arith}
use Rattle.time_sharing.specs.Machine.{Machine, Laws, Line, Reply}
use Rattle.time_sharing.specs.Private.{Alone, FeedItem, Open, Typed, Cut, next_alone, answered, steps, after}
use Rattle.time_sharing.specs.Reach.{Reaches, LeadsTo, more, line_in}
use Rattle.time_sharing.proofs.Alone.{when_some, answered_was, answered_to}

module _ {S : Type 0} (m : Machine S) (laws : Laws m) where
  -- a step with more answers behind those that it takes
  pub next_more : (xs : List ℕ) (ys : List Reply) (s e : Alone S) → next_alone m s ≡ Some e → next_alone m (more m xs ys s) ≡ Some (more m xs ys e)
  next_more xs ys s e h =
      let w = when_some (m.can_step s.state) (answered m s) e h in
      rw w.0 (answered_to m s e s.state (λ p. p) (λ l. l ++ xs) (λ l. l ++ ys) refl refl (λ t ts. refl) (λ r rs. refl) (λ t r q. sym q) w.1)

  pub reaches_more : (xs : List ℕ) (ys : List Reply) (n : ℕ) (s e : Alone S) → Reaches m n s e → Reaches m n (more m xs ys s) (more m xs ys e)
  reaches_more xs ys zero s e h = ap (more m xs ys) h
  reaches_more xs ys (suc n) s e h = (more m xs ys h.0, next_more xs ys s h.0 h.1, reaches_more xs ys n h.0 e h.2)

  pub goes_more : (xs : List ℕ) (ys : List Reply) (items : List FeedItem) (s e : Alone S) → LeadsTo m items s e → LeadsTo m items (more m xs ys s) (more m xs ys e)
  goes_more xs ys [] s e h = ap (more m xs ys) h
  goes_more xs ys (Open k ∷ items) s e h = (more m xs ys h.0, reaches_more xs ys _ s h.0 h.1, h.2, goes_more xs ys items _ e h.3)
  goes_more xs ys (Typed l ∷ items) s e h = goes_more xs ys items _ e h
  goes_more xs ys (Cut k kind ∷ items) s e h = (more m xs ys h.0, reaches_more xs ys _ s h.0 h.1, h.2, goes_more xs ys items _ e h.3)

  -- a step raises the count by one
  pub next_own : (s e : Alone S) → next_alone m s ≡ Some e → m.own e.state ≡ suc (m.own s.state)
  next_own s e h =
      let w = when_some (m.can_step s.state) (answered m s) e h in
      let a = answered_was m s e w.1 in
      ap m.own a.2 ∙ laws.rises s.state a.0 a.1 w.0

  pub reaches_own : (n : ℕ) (s e : Alone S) → Reaches m n s e → m.own e.state ≡ n + m.own s.state
  reaches_own zero s e h = omega (arith, ap (λ a. m.own a.state) h)
  reaches_own (suc n) s e h = omega (arith, next_own s h.0 h.1, reaches_own n h.0 e h.2)

  pub next_line : (l : Line) (s e : Alone S) → m.is_open e.state ≡ true → next_alone m s ≡ Some e → next_alone m (line_in m l s) ≡ Some (line_in m l e)
  next_line l s e up h =
      let w = when_some (m.can_step s.state) (answered m s) e h in
      rw (laws.typed_can s.state l w.0) (answered_to m s e (m.typed s.state l) (λ p. m.typed p l) (λ ts. ts) (λ rs. rs)
      (laws.typed_clock s.state l w.0) (laws.typed_common s.state l w.0) (λ t ts. refl) (λ r rs. refl)
      (λ t r q. laws.commutes s.state l t r w.0 (subst (λ z. m.is_open z ≡ true) q up) ∙ ap (λ z. m.typed z l) (sym q)) w.1)

  -- the session is open all along a run at whose end it is
  pub reaches_open : (n : ℕ) (s e : Alone S) → Reaches m n s e → m.is_open e.state ≡ true → m.is_open s.state ≡ true
  reaches_open zero s e h up = ap (λ a. m.is_open a.state) h ∙ up
  reaches_open (suc n) s e h up = laws.can_open s.state (when_some (m.can_step s.state) (answered m s) h.0 h.1).0

  -- a line commutes with a whole run
  pub reaches_line : (l : Line) (n : ℕ) (s e : Alone S) → m.is_open e.state ≡ true → Reaches m n s e → Reaches m n (line_in m l s) (line_in m l e)
  reaches_line l zero s e up h = ap (line_in m l) h
  reaches_line l (suc n) s e up h = (line_in m l h.0, next_line l s h.0 (reaches_open n h.0 e h.2 up) h.1, reaches_line l n h.0 e up h.2)

  -- one step more
  pub reaches_step : (n : ℕ) (s mid e : Alone S) → Reaches m n s mid → next_alone m mid ≡ Some e → Reaches m (suc n) s e
  reaches_step zero s mid e h is = (e, ap (next_alone m) h ∙ is, refl)
  reaches_step (suc n) s mid e h is = (h.0, h.1, reaches_step n h.0 mid e h.2 is)

  -- what is reached is where the run leads
  pub steps_reach : (n : ℕ) (s e : Alone S) → Reaches m n s e → steps m n s ≡ e
  steps_reach zero s e h = h
  steps_reach (suc n) s e h = rw (h.1, steps) (steps_reach n h.0 e h.2)

  pub goes_alone : (items : List FeedItem) (s e : Alone S) → LeadsTo m items s e → fold (after m) s items ≡ e
  goes_alone [] s e h = h
  goes_alone (Open k ∷ items) s e h = rw (steps_reach _ s h.0 h.1) (goes_alone items _ e h.3)
  goes_alone (Typed l ∷ items) s e h = goes_alone items _ e h
  goes_alone (Cut k kind ∷ items) s e h = rw (steps_reach _ s h.0 h.1) (goes_alone items _ e h.3)

  -- one item after the other
  pub goes_on : (items rest : List FeedItem) (s mid e : Alone S) → LeadsTo m items s mid → LeadsTo m rest mid e → LeadsTo m (items ++ rest) s e
  goes_on [] rest s mid e g h = subst (λ z. LeadsTo m rest z e) (sym g) h
  goes_on (Open k ∷ items) rest s mid e g h = (g.0, g.1, g.2, goes_on items rest _ mid e g.3 h)
  goes_on (Typed l ∷ items) rest s mid e g h = goes_on items rest _ mid e g h
  goes_on (Cut k kind ∷ items) rest s mid e g h = (g.0, g.1, g.2, goes_on items rest _ mid e g.3 h)
