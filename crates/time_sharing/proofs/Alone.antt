use Rattle.std.proofs.Common.{◌≡◌, ℕ, Bool, true, false, List, [], ◌∷◌, Option, Some, is_some, refl, sym, ap, ◌∙◌}
use Rattle.time_sharing.specs.Machine.{Machine, Reply, Done}
use Rattle.time_sharing.specs.Private.{Alone, answered, when, with_clock, with_reply}

pub some_same : {X : Type 0} {a b : X} → ◌≡◌ {A = Option X} (Some a) (Some b) → a ≡ b
some_same e = cc

pub when_some : {X : Type 0} (b : Bool) (o : Option X) (x : X) → when b o ≡ Some x → (b ≡ true) × (o ≡ Some x)
when_some false o x e = cc
when_some true o x e = (refl, e)

-- the same answers are taken from a longer list
reply_to : {X : Type 0} (b : Bool) (rs : List Reply) (g : List Reply → List Reply) (k : Reply → List Reply → Option X) (k' : Reply → List Reply → Option X) (x y : X) →
    ((r : Reply) (rs : List Reply) → g (r ∷ rs) ≡ r ∷ g rs) → ((r : Reply) (rs : List Reply) → k r rs ≡ Some x → k' r (g rs) ≡ Some y) → with_reply b rs k ≡ Some x → with_reply b (g rs) k' ≡ Some y
reply_to false rs g k k' x y c f e = f Done rs e
reply_to true [] g k k' x y c f e = cc
reply_to true (r ∷ rs) g k k' x y c f e = ap (λ l. with_reply true l k') (c r rs) ∙ f r rs e

clock_to : {X : Type 0} (b : Bool) (ts : List ℕ) (g : List ℕ → List ℕ) (k : ℕ → List ℕ → Option X) (k' : ℕ → List ℕ → Option X) (x y : X) →
    ((t : ℕ) (ts : List ℕ) → g (t ∷ ts) ≡ t ∷ g ts) → ((t : ℕ) (ts : List ℕ) → k t ts ≡ Some x → k' t (g ts) ≡ Some y) → with_clock b ts k ≡ Some x → with_clock b (g ts) k' ≡ Some y
clock_to false ts g k k' x y c f e = f 0 ts e
clock_to true [] g k k' x y c f e = cc
clock_to true (t ∷ ts) g k k' x y c f e = ap (λ l. with_clock true l k') (c t ts) ∙ f t ts e

-- what was answered
reply_was : {X : Type 0} (b : Bool) (rs : List Reply) (k : Reply → List Reply → Option X) (x : X) → with_reply b rs k ≡ Some x → (r : Reply) × (rest : List Reply) × (k r rest ≡ Some x)
reply_was false rs k x e = (Done, rs, e)
reply_was true [] k x e = cc
reply_was true (r ∷ rs) k x e = (r, rs, e)

clock_was : {X : Type 0} (b : Bool) (ts : List ℕ) (k : ℕ → List ℕ → Option X) (x : X) → with_clock b ts k ≡ Some x → (t : ℕ) × (rest : List ℕ) × (k t rest ≡ Some x)
clock_was false ts k x e = (0, ts, e)
clock_was true [] k x e = cc
clock_was true (t ∷ ts) k x e = (t, ts, e)

module _ {S : Type 0} (m : Machine S) where
  pub answered_was : (s e : Alone S) → answered m s ≡ Some e → (t : ℕ) × (r : Reply) × (e.state ≡ m.step s.state t r)
  answered_was s e h =
      let c = clock_was (m.asks_clock s.state) s.clocks _ e h in
      let d = reply_was (is_some (m.asks_common s.state)) s.replies _ e c.2 in
      (c.0, d.0, ap (λ a. a.state) (sym (some_same d.2)))

  -- another state that asks the same takes the same answers
  pub answered_to : (s e : Alone S) (q : S) (F : S → S) (g : List ℕ → List ℕ) (h : List Reply → List Reply) →
      m.asks_clock q ≡ m.asks_clock s.state → m.asks_common q ≡ m.asks_common s.state →
      ((t : ℕ) (ts : List ℕ) → g (t ∷ ts) ≡ t ∷ g ts) → ((r : Reply) (rs : List Reply) → h (r ∷ rs) ≡ r ∷ h rs) →
      ((t : ℕ) (r : Reply) → e.state ≡ m.step s.state t r → m.step q t r ≡ F e.state) →
      answered m s ≡ Some e → answered m (record { state = q; clocks = g s.clocks; replies = h s.replies }) ≡ Some (record { state = F e.state; clocks = g e.clocks; replies = h e.replies })
  answered_to s e q F g h ask_t ask_r cg ch f is =
      rw (ask_t, ask_r) (clock_to (m.asks_clock s.state) s.clocks g _ _ e _ cg (λ t ts. reply_to (is_some (m.asks_common s.state)) s.replies h _ _ e _ ch (λ r rs a.
      let same = some_same a in
      λ i. Some (record { state = (ap (λ z. m.step q t r) same ∙ f t r (ap (λ z. z.state) (sym same))) i; clocks = g ((same i).clocks); replies = h ((same i).replies) }))) is)
