-- Two states of a machine made of rows that differ only in what was said before, and by one own step: their steps are alike.
use Rattle.std.proofs.Common.{◌≡◌, ℕ, zero, suc, ◌-◌, Bool, true, false, if◌then◌else◌, List, [], ◌∷◌, ◌++◌, Option, Some, None, is_some, refl, sym, ap, subst, ◌∙◌, arith, ◌⊎◌, inl, inr, append_assoc}
use Rattle.time_sharing.specs.Machine.{Item, Reply, Done}
use Rattle.time_sharing.specs.Rows.{Rows, Private, Outcome, machine, line_of, own_at_command_of, result_of, done, one_less, in_line, out_all}
use Rattle.time_sharing.specs.Private.{Alone, answered, next_alone, steps, when, with_clock, with_reply}

-- both are there, and are alike, or neither is
abbrev pub Both : {S : Type 0} (R : S → S → Type 0) → Option S → Option S → Type 0
Both R None None = Unit {0}
Both R None (Some b) = ⊥
Both R (Some a) None = ⊥
Both R (Some a) (Some b) = R a b

when_both : {S : Type 0} (R : S → S → Type 0) (b : Bool) (x y : Option S) → Both R x y → Both R (when b x) (when b y)
when_both R false x y h = tt
when_both R true x y h = h

clock_both : {S : Type 0} (R : S → S → Type 0) (b : Bool) (ts : List ℕ) (k k' : ℕ → List ℕ → Option S) → ((t : ℕ) (ts : List ℕ) → Both R (k t ts) (k' t ts)) → Both R (with_clock b ts k) (with_clock b ts k')
clock_both R false ts k k' h = h 0 ts
clock_both R true [] k k' h = tt
clock_both R true (t ∷ ts) k k' h = h t ts

reply_both : {S : Type 0} (R : S → S → Type 0) (b : Bool) (rs : List Reply) (k k' : Reply → List Reply → Option S) → ((r : Reply) (rs : List Reply) → Both R (k r rs) (k' r rs)) → Both R (with_reply b rs k) (with_reply b rs k')
reply_both R false rs k k' h = h Done rs
reply_both R true [] k k' h = tt
reply_both R true (r ∷ rs) k k' h = h r rs

-- the own steps since a command are as many where all counts are one more
since_same : (b : Bool) (own at at' : ℕ) → (b ≡ true) ⊎ (at ≡ suc at') → suc (suc own) - (if b then suc own else at) ≡ suc own - (if b then own else at')
since_same true own at at' h = omega arith
since_same false own at at' (inl e) = cc
since_same false own at at' (inr e) = omega (arith, e)

since_later : (b : Bool) (own at at' : ℕ) → (b ≡ true) ⊎ (at ≡ suc at') → (if b then suc own else at) ≡ suc (if b then own else at')
since_later true own at at' h = refl
since_later false own at at' (inl e) = cc
since_later false own at at' (inr e) = e

module _ {A : Type 0} (rows : Rows A) (a b : List Item) where
  -- q with one own step more, and with this said
  abbrev pub later : List Item → ℕ → Private A → Private A
  later said at q = record q { transcript = said; own = suc q.own; own_at_command = at }

  -- p is q with one own step more. Before what both said, p said a and q said b. Where the next step isn't a command, p's last was one later.
  pub record Alike (p q : Alone (Private A)) : Type 0 where
    pub said : List Item
    pub at : ℕ
    pub is : p ≡ record q { state = later (a ++ said) at q.state }
    pub other : q.state.transcript ≡ b ++ said
    pub count : (rows.is_command q.state.inner ≡ true) ⊎ (at ≡ suc q.state.own_at_command)

  -- what a step says
  said_in : Private A → ℕ → Reply → List Item
  said_in q t r = in_line (line_of rows q) ++ out_all (result_of rows q t r).written

  same_result : (said : List Item) (at : ℕ) (q : Private A) (t : ℕ) (r : Reply) → (rows.is_command q.inner ≡ true) ⊎ (at ≡ suc q.own_at_command) →
      result_of rows (later said at q) t r ≡ result_of rows q t r
  same_result said at q t r count =
      ap (λ (n : ℕ). rows.act q.inner (line_of rows q) n (one_less (line_of rows q) q.fed) t r) (since_same (rows.is_command q.inner) q.own at q.own_at_command count)

  stepped : (said : List Item) (at : ℕ) (q : Private A) (ts : List ℕ) (rs : List Reply) (t : ℕ) (r : Reply) → q.transcript ≡ b ++ said → (rows.is_command q.inner ≡ true) ⊎ (at ≡ suc q.own_at_command) →
      Alike (record { state = (machine rows).step (later (a ++ said) at q) t r; clocks = ts; replies = rs }) (record { state = (machine rows).step q t r; clocks = ts; replies = rs })
  unfolding said_in
  stepped said at q ts rs t r other count =
      record {
        said = said ++ said_in q t r;
        at = own_at_command_of rows (later (a ++ said) at q);
        is = (λ j. record { state = done rows (later (a ++ said) at q) (same_result (a ++ said) at q t r count j); clocks = ts; replies = rs })
            ∙ (λ j. record { state = later (append_assoc a said (said_in q t r) j) (own_at_command_of rows (later (a ++ said) at q)) (done rows q (result_of rows q t r)); clocks = ts; replies = rs });
        other = ap (λ (xs : List Item). xs ++ said_in q t r) other ∙ append_assoc b said (said_in q t r);
        count = inr (since_later (rows.is_command q.inner) q.own at q.own_at_command count);
      }

  shifted : (said : List Item) (at : ℕ) (q : Alone (Private A)) → q.state.transcript ≡ b ++ said → (rows.is_command q.state.inner ≡ true) ⊎ (at ≡ suc q.state.own_at_command) →
      Both Alike (next_alone (machine rows) (record q { state = later (a ++ said) at q.state })) (next_alone (machine rows) q)
  shifted said at q other count =
      when_both Alike ((machine rows).can_step q.state) _ _
      (clock_both Alike ((machine rows).asks_clock q.state) q.clocks _ _ (λ t ts.
      reply_both Alike (is_some ((machine rows).asks_common q.state)) q.replies _ _ (λ r rs.
      stepped said at q.state ts rs t r other count)))

  pub next_alike : (p q : Alone (Private A)) → Alike p q → Both Alike (next_alone (machine rows) p) (next_alone (machine rows) q)
  next_alike p q h = subst (λ (z : Alone (Private A)). Both Alike (next_alone (machine rows) z) (next_alone (machine rows) q)) (sym h.is) (shifted h.said h.at q h.other h.count)

  by_next : (n : ℕ) (p q : Alone (Private A)) → Alike p q → ((e f : Alone (Private A)) → Alike e f → Alike (steps (machine rows) n e) (steps (machine rows) n f)) →
      (x y : Option (Alone (Private A))) → Both Alike x y → Alike (elim x [ None ↦ p | Some e ↦ steps (machine rows) n e ]) (elim y [ None ↦ q | Some e ↦ steps (machine rows) n e ])
  by_next n p q h on None None both = h
  by_next n p q h on None (Some f) both = absurd both
  by_next n p q h on (Some e) None both = absurd both
  by_next n p q h on (Some e) (Some f) both = on e f both

  pub steps_alike : (n : ℕ) (p q : Alone (Private A)) → Alike p q → Alike (steps (machine rows) n p) (steps (machine rows) n q)
  steps_alike zero p q h = h
  steps_alike (suc n) p q h = by_next n p q h (steps_alike n) (next_alone (machine rows) p) (next_alone (machine rows) q) (next_alike p q h)
