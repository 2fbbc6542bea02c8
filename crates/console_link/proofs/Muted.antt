-- A link that tells neither bytes nor calls.
use Rattle.std.specs.Prelude.{Bool, true, false, ◌&&◌, nat_lt, nat_eq, get_or, set, None, Some, Option}
use Rattle.std.specs.Option.{is_some}
use Rattle.std.proofs.Common.{◌≡◌, ◌≢◌, ℕ, ◌<◌, List, length, refl, sym, ◌∙◌, ap, subst, arith, inl, inr, ltb-true, lt-ltb, if◌then◌else◌}
use Rattle.std.proofs.lemmas.Bool.{cases_Bool, false≢true}
use Rattle.std.proofs.lemmas.Bool.Decides.{nat_tests}
use Rattle.std.proofs.lemmas.List.{get_or-set_same, get_or-set_other, length-set}
use Rattle.slab.specs.Slab.{Slab, get, Updates}
use Rattle.console_link.specs.declared.link.Accepted.TheVariants as accepted
use Rattle.console_link.specs.declared.link.LinkGot.{LinkGot}
use Rattle.console_link.specs.declared.link.LinkTook.{LinkTook}
use Rattle.console_link.specs.declared.sockets.Tally.{Tally}
use Rattle.console_link.specs.Links.{Done, DidAccept, DidRead, DidWrite, Did, Counted, Rises, IsFresh, accepts, names, is_failed, not_yet, is_at, is_none, is_accept, reads_at, writes_at, open_after, got_failed, got_waits, took_failed, took_waits}
use Rattle.console_link.specs.Tallies.{counts_at, no_tally, is_place, seen_of}

pub stays : (may : Bool) (n : ℕ) → Rises may false n n
stays true n = omega arith
stays false n = refl

first_of : (a b : Bool) → (a && b) ≡ true → a ≡ true
first_of true b h = refl
first_of false b h = h

second_of : (a b : Bool) → (a && b) ≡ true → b ≡ true
second_of true b h = h
second_of false b h = absurd (false≢true h)

module _ {T : Type 0} where
  pub placed : (streams : Slab T) (tallies : List Tally) (k : ℕ) → is_place streams tallies k ≡ true → k < length tallies
  placed streams tallies k h = ltb-true k (length tallies) (first_of _ _ h)

  pub seen_here : (streams : Slab T) (tallies : List Tally) (k : ℕ) → is_place streams tallies k ≡ true → is_some (get streams k) ≡ true
  seen_here streams tallies k h = second_of _ _ h

  pub muted : (d : Done) (streams streams' : Slab T) (ts ts' : List Tally) (f f' w w' : ℕ) →
      ((k : ℕ) → is_place streams' ts' k ≡ open_after d k (is_place streams ts k)) →
      IsFresh (accepts d) (seen_of streams ts f w) →
      ((k : ℕ) → Counted d k (counts_at ts k) (counts_at ts' k)) →
      Rises (is_none (names d)) (is_failed d) f f' →
      Rises (is_accept d) (not_yet d) w w' →
      Did d (seen_of streams ts f w) (seen_of streams' ts' f' w')
  muted d streams streams' ts ts' f f' w w' opens fresh counts faults waits =
      record { opens = opens; fresh = fresh; counts = counts; faults = faults; waits = waits; calls = refl; tells = refl; bytes = λ h. absurd (false≢true h) }

pub nat_eq-self : (n : ℕ) → nat_eq n n ≡ true
nat_eq-self n = grind (arith, nat_tests)

pub is_of : (k id : ℕ) → nat_eq k id ≡ true → k ≡ id
is_of k id q = grind (arith, nat_tests)

pub not_of : (k id : ℕ) → nat_eq k id ≡ false → k ≢ id
not_of k id q is = false≢true (sym q ∙ ap (λ (n : ℕ). nat_eq n id) is ∙ nat_eq-self id)

-- a read changes the counts of its place
pub read_counts : (answer : LinkGot) (bytes : List ℕ) (ts : List Tally) (id k : ℕ) (t : Tally) → id < length ts →
    t.write_waits ≡ (get_or ts id no_tally).write_waits →
    Rises true (got_failed answer) (get_or ts id no_tally).faults t.faults →
    Rises true (got_waits answer) (get_or ts id no_tally).read_waits t.read_waits →
    Counted (DidRead id answer bytes) k (counts_at ts k) (counts_at (set ts id t) k)
read_counts answer bytes ts id k t lt writes faults reads =
    elim (cases_Bool (nat_eq k id)) [
      | inl q ↦
          let at : get_or (set ts id t) k no_tally ≡ t = ap (λ (n : ℕ). get_or (set ts id t) n no_tally) (is_of k id q) ∙ get_or-set_same ts id t no_tally lt in
          let was : get_or ts id no_tally ≡ get_or ts k no_tally = ap (λ (n : ℕ). get_or ts n no_tally) (sym (is_of k id q)) in
          record {
            faults = subst (λ (b : Bool). Rises b (got_failed answer) (get_or ts k no_tally).faults (get_or (set ts id t) k no_tally).faults) (sym q)
                (subst (λ (y : Tally). Rises true (got_failed answer) (get_or ts k no_tally).faults y.faults) (sym at) (subst (λ (y : Tally). Rises true (got_failed answer) y.faults t.faults) was faults));
            read_waits = subst (λ (b : Bool). Rises b (got_waits answer) (get_or ts k no_tally).read_waits (get_or (set ts id t) k no_tally).read_waits) (sym q)
                (subst (λ (y : Tally). Rises true (got_waits answer) (get_or ts k no_tally).read_waits y.read_waits) (sym at) (subst (λ (y : Tally). Rises true (got_waits answer) y.read_waits t.read_waits) was reads));
            write_waits = ap (λ (y : Tally). y.write_waits) at ∙ writes ∙ ap (λ (y : Tally). y.write_waits) was;
          }
      | inr q ↦
          let at : get_or (set ts id t) k no_tally ≡ get_or ts k no_tally = get_or-set_other ts id k t no_tally (not_of k id q) in
          record {
            faults = subst (λ (b : Bool). Rises b (got_failed answer) (get_or ts k no_tally).faults (get_or (set ts id t) k no_tally).faults) (sym q) (ap (λ (y : Tally). y.faults) at);
            read_waits = subst (λ (b : Bool). Rises b (got_waits answer) (get_or ts k no_tally).read_waits (get_or (set ts id t) k no_tally).read_waits) (sym q) (ap (λ (y : Tally). y.read_waits) at);
            write_waits = ap (λ (y : Tally). y.write_waits) at;
          }
    ]

pub write_counts : (answer : LinkTook) (bytes : List ℕ) (ts : List Tally) (id k : ℕ) (t : Tally) → id < length ts →
    t.read_waits ≡ (get_or ts id no_tally).read_waits →
    Rises true (took_failed answer) (get_or ts id no_tally).faults t.faults →
    Rises true (took_waits answer) (get_or ts id no_tally).write_waits t.write_waits →
    Counted (DidWrite id answer bytes) k (counts_at ts k) (counts_at (set ts id t) k)
write_counts answer bytes ts id k t lt reads faults writes =
    elim (cases_Bool (nat_eq k id)) [
      | inl q ↦
          let at : get_or (set ts id t) k no_tally ≡ t = ap (λ (n : ℕ). get_or (set ts id t) n no_tally) (is_of k id q) ∙ get_or-set_same ts id t no_tally lt in
          let was : get_or ts id no_tally ≡ get_or ts k no_tally = ap (λ (n : ℕ). get_or ts n no_tally) (sym (is_of k id q)) in
          record {
            faults = subst (λ (b : Bool). Rises b (took_failed answer) (get_or ts k no_tally).faults (get_or (set ts id t) k no_tally).faults) (sym q)
                (subst (λ (y : Tally). Rises true (took_failed answer) (get_or ts k no_tally).faults y.faults) (sym at) (subst (λ (y : Tally). Rises true (took_failed answer) y.faults t.faults) was faults));
            read_waits = ap (λ (y : Tally). y.read_waits) at ∙ reads ∙ ap (λ (y : Tally). y.read_waits) was;
            write_waits = subst (λ (b : Bool). Rises b (took_waits answer) (get_or ts k no_tally).write_waits (get_or (set ts id t) k no_tally).write_waits) (sym q)
                (subst (λ (y : Tally). Rises true (took_waits answer) (get_or ts k no_tally).write_waits y.write_waits) (sym at) (subst (λ (y : Tally). Rises true (took_waits answer) y.write_waits t.write_waits) was writes));
          }
      | inr q ↦
          let at : get_or (set ts id t) k no_tally ≡ get_or ts k no_tally = get_or-set_other ts id k t no_tally (not_of k id q) in
          record {
            faults = subst (λ (b : Bool). Rises b (took_failed answer) (get_or ts k no_tally).faults (get_or (set ts id t) k no_tally).faults) (sym q) (ap (λ (y : Tally). y.faults) at);
            read_waits = ap (λ (y : Tally). y.read_waits) at;
            write_waits = subst (λ (b : Bool). Rises b (took_waits answer) (get_or ts k no_tally).write_waits (get_or (set ts id t) k no_tally).write_waits) (sym q) (ap (λ (y : Tally). y.write_waits) at);
          }
    ]

pub same_counts : (d : Done) (ts : List Tally) (k : ℕ) → is_failed d ≡ false → not_yet d ≡ false → Counted d k (counts_at ts k) (counts_at ts k)
same_counts d ts k f n =
    record {
      faults = subst (λ (b : Bool). Rises (is_at (names d) k) b (get_or ts k no_tally).faults (get_or ts k no_tally).faults) (sym f) (stays _ _);
      read_waits = subst (λ (b : Bool). Rises (reads_at d k) b (get_or ts k no_tally).read_waits (get_or ts k no_tally).read_waits) (sym n) (stays _ _);
      write_waits = subst (λ (b : Bool). Rises (writes_at d k) b (get_or ts k no_tally).write_waits (get_or ts k no_tally).write_waits) (sym n) (stays _ _);
    }

module _ {T : Type 0} (streams : Slab T) (ts : List Tally) (f w id : ℕ) where
  pub read_nothing : (answer : LinkGot) (bytes : List ℕ) → got_failed answer ≡ false → got_waits answer ≡ false → Did (DidRead id answer bytes) (seen_of streams ts f w) (seen_of streams ts f w)
  read_nothing answer bytes well ready = muted (DidRead id answer bytes) streams streams ts ts f f w w (λ k. refl) tt (λ k. same_counts (DidRead id answer bytes) ts k well ready) refl refl

  pub read_changed : (answer : LinkGot) (bytes : List ℕ) (t : Tally) → id < length ts →
      t.write_waits ≡ (get_or ts id no_tally).write_waits →
      Rises true (got_failed answer) (get_or ts id no_tally).faults t.faults →
      Rises true (got_waits answer) (get_or ts id no_tally).read_waits t.read_waits →
      Did (DidRead id answer bytes) (seen_of streams ts f w) (seen_of streams (set ts id t) f w)
  read_changed answer bytes t lt writes faults reads =
      muted (DidRead id answer bytes) streams streams ts (set ts id t) f f w w
      (λ k. ap (λ (n : ℕ). nat_lt k n && is_some (get streams k)) (length-set ts id t)) tt
      (λ k. read_counts answer bytes ts id k t lt writes faults reads) refl refl

  pub write_nothing : (answer : LinkTook) (bytes : List ℕ) → took_failed answer ≡ false → took_waits answer ≡ false → Did (DidWrite id answer bytes) (seen_of streams ts f w) (seen_of streams ts f w)
  write_nothing answer bytes well ready = muted (DidWrite id answer bytes) streams streams ts ts f f w w (λ k. refl) tt (λ k. same_counts (DidWrite id answer bytes) ts k well ready) refl refl

  pub write_changed : (answer : LinkTook) (bytes : List ℕ) (t : Tally) → id < length ts →
      t.read_waits ≡ (get_or ts id no_tally).read_waits →
      Rises true (took_failed answer) (get_or ts id no_tally).faults t.faults →
      Rises true (took_waits answer) (get_or ts id no_tally).write_waits t.write_waits →
      Did (DidWrite id answer bytes) (seen_of streams ts f w) (seen_of streams (set ts id t) f w)
  write_changed answer bytes t lt reads faults writes =
      muted (DidWrite id answer bytes) streams streams ts (set ts id t) f f w w
      (λ k. ap (λ (n : ℕ). nat_lt k n && is_some (get streams k)) (length-set ts id t)) tt
      (λ k. write_counts answer bytes ts id k t lt reads faults writes) refl refl

and_false : (b : Bool) → (b && false) ≡ false
and_false true = refl
and_false false = refl

module _ {T : Type 0} (streams streams' : Slab T) (ts : List Tally) (f w id : ℕ) where
  -- a new connection, at a place that was free
  pub accepted_new : {value : T} → get streams id ≡ None → Updates streams streams' id (Some value) → id < length ts →
      Did (DidAccept (accepted.New id)) (seen_of streams ts f w) (seen_of streams' ts f w)
  accepted_new {value} free updates lt =
      muted (DidAccept (accepted.New id)) streams streams' ts ts f f w w
      (λ k. elim (cases_Bool (nat_eq k id)) [
        | inl q ↦
            let here : get streams' k ≡ Some value = ap (get streams') (is_of k id q) ∙ updates.changed in
            let below : nat_lt k (length ts) ≡ true = ap (λ (n : ℕ). nat_lt n (length ts)) (is_of k id q) ∙ lt-ltb id (length ts) lt in
            (λ i. below i && is_some (here i)) ∙ sym (ap (λ (b : Bool). if b then true else (nat_lt k (length ts) && is_some (get streams k))) q)
        | inr q ↦
            ap (λ (o : Option T). nat_lt k (length ts) && is_some o) (updates.others k (not_of k id q))
            ∙ sym (ap (λ (b : Bool). if b then true else (nat_lt k (length ts) && is_some (get streams k))) q)
      ])
      (ap (λ (o : Option T). nat_lt id (length ts) && is_some o) free ∙ and_false (nat_lt id (length ts)), λ h. absurd (false≢true h))
      (λ k. same_counts (DidAccept (accepted.New id)) ts k refl refl) (stays true f) (stays true w)
