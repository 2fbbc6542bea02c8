-- Each step of the machine of all users keeps what is true of one user.
use Rattle.std.proofs.Common.{◌≡◌, ◌≢◌, ℕ, suc, ◌+◌, ◌≤◌, ◌<◌, Bool, true, false, nat_eq, nat_lt, nat_le, List, [], ◌∷◌, ◌++◌, Option, Some, None, fold, refl, sym, ap, subst, ◌∙◌, arith, cond, if◌then◌else◌, length, append-nil, inl, inr}
use Rattle.std.proofs.lemmas.Bool.Decides.{eqb_tells}
use Rattle.std.proofs.lemmas.List.Sums.{fold-append}
use Rattle.std.proofs.lemmas.Bool.{eq-eqb}
use Rattle.time_sharing.specs.Machine.{Machine, Laws, CutKind, Quit, Hang, Spent, End, Line, CommonOp, Reply, Done, Ending, Went, Stopped, Resized, Replaced, LoggedOut}
use Rattle.time_sharing.specs.Private.{FeedItem, Cut}
use Rattle.time_sharing.specs.System as system
use Rattle.time_sharing.specs.System.{SystemState, World, Service, Console, Off, On, Password, Session, Event, Dials, Types, Quits, Hangs, Entry, Taken, Login, Refused, Idle, Swap, Rise, at, put, out_of, without, Timed, Cause, Time, Wait, Stop, Size, Preempt, AtEnd, Serve, Clock, Common, EventKind, DialTaken, LineTaken, QuitTaken, HangTaken, SpentTaken, kind_of, service_after, service_entry, clock_entry, common_entry, cause_of, clock_for, consoles_cut, consoles_after}
use Rattle.time_sharing.specs.Feeds.{Observed, observe, observed, feed_items, steps_of, first_text, text_of, ran_of}
use Rattle.time_sharing.proofs.Isolation as one
use Rattle.time_sharing.proofs.Isolation.{Holds, clocks_in, replies_in}
use Rattle.time_sharing.proofs.Tables.{at-put_same, at-put_other, length-put, put_was, without_was}

-- u's part of the state, where the events of pending aren't in the entries yet
pub record Inv {S P F : Type 0} (m : Machine S) (w : World S P F) (first : S) (u : ℕ) (script pending : List Timed) (s : SystemState S P F) : Type 0 where
  pub inside : u ≤ length s.users
  pub holds : Holds m first u (pending ++ s.events) (system.state_of m w s u) (ran_of u s.service) s.consoles (observed u script s.entries)

in_same : (v u : ℕ) → Session v ≡ Session u → v ≡ u
in_same v u e = cc

served_counts : (b : Bool) (own ran st : ℕ) → st ≡ ran → own + (if b then ran else 0) ≡ (if b then own + st else own) + 0
served_counts true own ran st e = omega arith
served_counts false own ran st e = refl

module _ {S P F : Type 0} (m : Machine S) (laws : Laws m) (w : World S P F) (first : S) (u : ℕ) (pos : 0 < u) (script : List Timed) where
  -- entries more
  noting : (left : List Timed) (p : S) (ran : ℕ) (cs : List Console) (old new : List Entry) → Holds m first u left p ran cs (fold (observe u) (observed u script old) new) → Holds m first u left p ran cs (observed u script (old ++ new))
  noting left p ran cs old new h = subst (Holds m first u left p ran cs) (sym (fold-append (observe u) _ old new)) h

  inv_end_service : (pending : List Timed) (s : SystemState S P F) (v : Service) (cause : Cause) → steps_of cause v.ran ≡ v.ran → s.service ≡ Some v → Inv m w first u script pending s → Inv m w first u script pending (system.end_service m w cause v s)
  inv_end_service pending s v cause same is i =
      let o = observed u script s.entries in
      record {
        inside = i.inside;
        holds = noting _ _ _ _ s.entries _ (one.holds_served m laws first u _ _ (ran_of u s.service) 0 (if nat_eq v.user u then o.own + steps_of cause v.ran else o.own) _ o
            (ap (λ z. o.own + ran_of u z) is ∙ served_counts (nat_eq v.user u) o.own v.ran (steps_of cause v.ran) same) (inl refl) i.holds);
      }

  inv_preempt : (s : SystemState S P F) (v : Service) → s.service ≡ Some v → Inv m w first u script [] s → Inv m w first u script [] (system.preempt m w v s)
  inv_preempt s v is i = let h = inv_end_service [] s v Preempt refl is i in record { inside = h.inside; holds = h.holds }

  inv_end_idling : (pending : List Timed) (s : SystemState S P F) (idling : Option ℕ) → Inv m w first u script pending s → Inv m w first u script pending (system.end_idling_of m w idling s)
  inv_end_idling pending s None i = i
  inv_end_idling pending s (Some from) i = record { inside = i.inside; holds = noting _ _ _ _ s.entries (Idle from s.clock ∷ []) i.holds }

  -- a service of v's is stopped
  inv_stop_served : (pending : List Timed) (s : SystemState S P F) (v : ℕ) (service : Option Service) → s.service ≡ service → Inv m w first u script pending s → Inv m w first u script pending (system.stop_served_of m w service v s)
  inv_stop_served pending s v None is i = i
  inv_stop_served pending s v (Some x) is i = by_test (nat_eq x.user v)
    where
      by_test : (b : Bool) → Inv m w first u script pending (if b then system.end_service m w Stop x s else s)
      by_test true = inv_end_service pending s x Stop refl is i
      by_test false = i

  none_served : (s : SystemState S P F) (service : Option Service) → s.service ≡ service → ran_of u (system.stop_served_of m w service u s).service ≡ 0
  none_served s None is = ap (ran_of u) is
  none_served s (Some x) is = by_test (nat_eq x.user u) refl
    where
      by_test : (b : Bool) → nat_eq x.user u ≡ b → ran_of u (if b then system.end_service m w Stop x s else s).service ≡ 0
      by_test true e = refl
      by_test false e = ap (ran_of u) is ∙ ap (λ b. cond b x.ran 0) e

  -- an event that no session hears
  nobody's : nat_eq 0 u ≡ false
  nobody's = elim (eqb_tells 0 u) [ inl h ↦ absurd (omega (arith, h.1)) | inr h ↦ h.0 ]

  inv_heard : (e : Timed) (s : SystemState S P F) (c : ℕ) (kind : EventKind) (now : Console) (more : List Entry) → (now ≡ Session u → ⊥) → ((o : Observed) → fold (observe u) o more ≡ o) →
      Inv m w first u script (e ∷ []) s → Inv m w first u script [] (system.heard m w c kind now more s)
  inv_heard e s c kind now more out silent i =
      let o = observed u script s.entries in
      record {
        inside = i.inside;
        holds = noting _ _ _ _ s.entries (Taken s.clock c kind 0 0 ∷ more) (rw (silent, nobody's)
            (one.holds_consoles m laws first u _ _ _ s.consoles _ _ (λ k q. elim (put_was Off s.consoles c k now (Session u) q) [ inl is ↦ absurd (out is) | inr was ↦ (k, was) ])
            (one.holds_taken m laws first u _ s.events _ _ _ o refl i.holds)));
      }

  inv_opens : (e : Timed) (s : SystemState S P F) (c v : ℕ) → m.is_open (system.state_of m w s v) ≡ false → Inv m w first u script (e ∷ []) s → Inv m w first u script [] (system.opens m w c v s)
  inv_opens e s c v down i =
      elim (eqb_tells v u) [
        | inl h ↦ subst (λ z. Inv m w first u script [] (system.opens m w c z s)) (sym h.1) (own (subst (λ z. m.is_open (system.state_of m w s z) ≡ false) h.1 down))
        | inr h ↦ other h.0 h.1
      ]
    where
      o : Observed
      o = observed u script s.entries

      own : m.is_open (system.state_of m w s u) ≡ false → Inv m w first u script [] (system.opens m w c u s)
      own down =
          record {
            inside = rw length-put i.inside;
            holds = noting _ _ _ _ s.entries (Taken s.clock c LineTaken 0 0 ∷ Login s.clock c u ∷ []) (rw (at-put_same w.nobody s.users u (m.opened (system.state_of m w s u)) pos i.inside, nobody's, eq-eqb u u refl)
                (one.holds_open m laws first u _ _ _ s.consoles _ _ down (one.holds_taken m laws first u _ s.events _ _ _ (observed u script s.entries) refl i.holds)));
          }

      other : nat_eq v u ≡ false → v ≢ u → Inv m w first u script [] (system.opens m w c v s)
      other e' ne =
          record {
            inside = rw length-put i.inside;
            holds = noting _ _ _ _ s.entries (Taken s.clock c LineTaken 0 0 ∷ Login s.clock c v ∷ []) (rw (at-put_other w.nobody s.users v u (m.opened (system.state_of m w s v)) (λ q. ne (sym q)), nobody's, e')
                (one.holds_consoles m laws first u _ _ _ s.consoles _ _ (λ k q. elim (put_was Off s.consoles c k (Session v) (Session u) q) [ inl is ↦ absurd (ne (in_same v u is)) | inr was ↦ (k, was) ])
                (one.holds_taken m laws first u _ s.events _ _ _ (observed u script s.entries) refl i.holds)));
          }

  -- a line to v's session
  inv_line : (e : Timed) (s : SystemState S P F) (c v : ℕ) (l : Line) → e.event ≡ Types l → at Off s.consoles c ≡ Session v → Inv m w first u script (e ∷ []) s → Inv m w first u script [] (system.line_at m w c v l s)
  inv_line e s c v l is there i =
      elim (eqb_tells v u) [
        | inl h ↦ subst (λ z. Inv m w first u script [] (system.line_at m w c z l s)) (sym h.1) (own (there ∙ ap (λ (z : ℕ). Session z) h.1))
        | inr h ↦ other h.0 h.1
      ]
    where
      own : at Off s.consoles c ≡ Session u → Inv m w first u script [] (system.line_at m w c u l s)
      own there =
          let o = observed u script s.entries in
          let text : first_text o.left ≡ l = ap first_text i.holds.left_is ∙ ap text_of is in
          record {
            inside = rw length-put i.inside;
            holds = noting _ _ _ _ s.entries (Taken s.clock c LineTaken u (m.own (system.state_of m w s u)) ∷ []) (rw (at-put_same w.nobody s.users u (m.typed (system.state_of m w s u) l) pos i.inside, eq-eqb u u refl, text)
                (one.holds_line m laws first u _ s.events _ _ s.consoles _ o l (i.holds.live c there) refl i.holds));
          }

      other : nat_eq v u ≡ false → v ≢ u → Inv m w first u script [] (system.line_at m w c v l s)
      other e' ne =
          record {
            inside = rw length-put i.inside;
            holds = noting _ _ _ _ s.entries (Taken s.clock c LineTaken v (m.own (system.state_of m w s v)) ∷ []) (rw (at-put_other w.nobody s.users v u (m.typed (system.state_of m w s v) l) (λ q. ne (sym q)), e')
                (one.holds_consoles m laws first u _ _ _ s.consoles _ _ (λ k q. (k, q))
                (one.holds_taken m laws first u _ s.events _ _ _ (observed u script s.entries) refl i.holds)));
          }

  -- consoles after a cut of v's session were in the same session before
  cut_was : (kind : CutKind) (c v k : ℕ) (cs : List Console) → at Off (consoles_cut kind c v cs) k ≡ Session u → (d : ℕ) × (at Off cs d ≡ Session u)
  cut_was Quit c v k cs e = (k, e)
  cut_was Hang c v k cs e = elim (put_was Off (without v cs) c k Off (Session u) e) [ inl is ↦ cc | inr was ↦ (k, (without_was v cs k u was).0) ]
  cut_was Spent c v k cs e = (k, (without_was v cs k u e).0)
  cut_was End c v k cs e = (k, e)

  -- after a cut of u's session it is open where a console is in it
  cut_live : (kind : CutKind) (c k : ℕ) (p : S) (cs : List Console) → ((d : ℕ) → at Off cs d ≡ Session u → m.is_open p ≡ true) → at Off (consoles_cut kind c u cs) k ≡ Session u → m.is_open (m.cut kind p) ≡ true
  cut_live Quit c k p cs live e = laws.quit_open p ∙ live k e
  cut_live Hang c k p cs live e = elim (put_was Off (without u cs) c k Off (Session u) e) [ inl is ↦ cc | inr was ↦ absurd ((without_was u cs k u was).1 refl) ]
  cut_live Spent c k p cs live e = absurd ((without_was u cs k u e).1 refl)
  cut_live End c k p cs live e = ap m.is_open (laws.at_end p) ∙ live k e

  inv_cut : (e : Timed) (s : SystemState S P F) (kind : CutKind) (c v : ℕ) → ((own : ℕ) (l : Line) → feed_items (kind_of kind) own l ≡ Cut own kind ∷ []) → (v ≡ u → ran_of u s.service ≡ 0) → Inv m w first u script (e ∷ []) s → Inv m w first u script [] (system.cut_at m w kind c v s)
  inv_cut e s kind c v gives none i =
      elim (eqb_tells v u) [
        | inl h ↦ subst (λ z. Inv m w first u script [] (system.cut_at m w kind c z s)) (sym h.1) (own (none h.1))
        | inr h ↦ other h.0 h.1
      ]
    where
      own : ran_of u s.service ≡ 0 → Inv m w first u script [] (system.cut_at m w kind c u s)
      own none =
          let o = observed u script s.entries in
          let p = system.state_of m w s u in
          let h = subst (λ ran. Holds m first u (e ∷ s.events) p ran s.consoles o) none i.holds in
          record {
            inside = rw length-put i.inside;
            holds = noting _ _ _ _ s.entries (Taken s.clock c (kind_of kind) u (m.own p) ∷ []) (rw (at-put_same w.nobody s.users u (m.cut kind p) pos i.inside, eq-eqb u u refl, none, gives)
                (one.holds_cut m laws first u _ s.events p s.consoles _ o kind refl (λ k. cut_live kind c k p s.consoles h.live) h));
          }

      other : nat_eq v u ≡ false → v ≢ u → Inv m w first u script [] (system.cut_at m w kind c v s)
      other e' ne =
          record {
            inside = rw length-put i.inside;
            holds = noting _ _ _ _ s.entries (Taken s.clock c (kind_of kind) v (m.own (system.state_of m w s v)) ∷ []) (rw (at-put_other w.nobody s.users v u (m.cut kind (system.state_of m w s v)) (λ q. ne (sym q)), e')
                (one.holds_consoles m laws first u _ _ _ s.consoles _ _ (λ k q. cut_was kind c v k s.consoles q)
                (one.holds_taken m laws first u _ s.events _ _ _ (observed u script s.entries) refl i.holds)));
          }

  -- a dial in v's session
  inv_dialed : (e : Timed) (s : SystemState S P F) (c v own : ℕ) → Inv m w first u script (e ∷ []) s → Inv m w first u script [] (system.noted m w (Taken s.clock c DialTaken v own ∷ []) s)
  inv_dialed e s c v own i =
      let o = observed u script s.entries in
      record {
        inside = i.inside;
        holds = noting _ _ _ _ s.entries (Taken s.clock c DialTaken v own ∷ []) (rw (same (nat_eq v u) o.items) (one.holds_taken m laws first u _ s.events _ _ _ o refl i.holds));
      }
    where
      same : (b : Bool) (xs : List FeedItem) → (if b then xs ++ [] else xs) ≡ xs
      same true xs = append-nil xs
      same false xs = refl

  -- what the entries of one step of the user add
  answers_seen : (o : Observed) (b : Bool) (t : ℕ) (c : Option CommonOp) (r : Reply) (es : List Entry) →
      fold (observe u) o (clock_entry b t u ++ (common_entry c u r ++ es)) ≡ fold (observe u) (record o { clocks = o.clocks ++ clocks_in b t; replies = o.replies ++ replies_in c r }) es
  answers_seen o false t None r es = ap (λ z. fold (observe u) z es) (λ i. record o { clocks = sym (append-nil o.clocks) i; replies = sym (append-nil o.replies) i })
  answers_seen o true t None r es = rw (eq-eqb u u refl) (ap (λ z. fold (observe u) z es) (λ i. record o { clocks = o.clocks ++ t ∷ []; replies = sym (append-nil o.replies) i }))
  answers_seen o false t (Some op) r es = rw (eq-eqb u u refl) (ap (λ z. fold (observe u) z es) (λ i. record o { clocks = sym (append-nil o.clocks) i; replies = o.replies ++ r ∷ [] }))
  answers_seen o true t (Some op) r es = rw (eq-eqb u u refl) refl

  -- what the entries of another's step add
  nothing_seen : (o : Observed) (x : Service) → nat_eq x.user u ≡ false → (b : Bool) (t : ℕ) (c : Option CommonOp) (r : Reply) (cause : Option Cause) →
      fold (observe u) o (clock_entry b t x.user ++ (common_entry c x.user r ++ service_entry x cause)) ≡ o
  nothing_seen o x e false t None r None = refl
  nothing_seen o x e true t None r None = rw e refl
  nothing_seen o x e false t (Some op) r None = rw e refl
  nothing_seen o x e true t (Some op) r None = rw e refl
  nothing_seen o x e false t None r (Some cause) = rw e refl
  nothing_seen o x e true t None r (Some cause) = rw e refl
  nothing_seen o x e false t (Some op) r (Some cause) = rw e refl
  nothing_seen o x e true t (Some op) r (Some cause) = rw e refl

  inv_goes_own : (s : SystemState S P F) (x : Service) → x.user ≡ u → ran_of u s.service ≡ x.ran → m.can_step (system.state_of m w s u) ≡ true → Inv m w first u script [] s →
      Inv m w first u script [] (system.goes m w (record x { user = u }) (system.state_of m w s u) s)
  inv_goes_own s x is counts can i =
      let p = system.state_of m w s u in
      record {
        inside = rw length-put i.inside;
        holds = noting _ _ _ _ s.entries _ (rw (at-put_same w.nobody s.users u (m.step p t r) pos i.inside, answers_seen) (by_ending (m.ending p t r) (w.time_left s.plan u) refl));
      }
    where
      p : S
      p = system.state_of m w s u

      r : Reply
      r = system.reply_for m w s.files (m.asks_common p)

      t : ℕ
      t = clock_for (m.asks_clock p) s.clock

      o : Observed
      o = observed u script s.entries

      o2 : Observed
      o2 = record o { clocks = o.clocks ++ clocks_in (m.asks_clock p) s.clock; replies = o.replies ++ replies_in (m.asks_common p) r }

      none : m.asks_common p ≡ None → r ≡ Done
      none e = ap (system.reply_for m w s.files) e

      q : S
      q = m.step p t r

      -- the service goes on
      on : m.is_open q ≡ true → Holds m first u s.events q (if nat_eq u u then suc x.ran else 0) s.consoles o2
      on up = rw (eq-eqb u u refl) (one.holds_step m laws first u s.events p (ran_of u s.service) (suc x.ran) s.consoles s.consoles o o2 s.clock r none can refl refl refl refl (omega (arith, counts)) (λ c e. up) (inr up) i.holds)

      -- it ends
      off : (ran : ℕ) (cs : List Console) → ran ≡ suc x.ran → ((c : ℕ) → at Off cs c ≡ Session u → m.is_open q ≡ true) → Holds m first u s.events q 0 cs (record o2 { own = if nat_eq u u then o2.own + ran else o2.own })
      off ran cs same live = rw (eq-eqb u u refl) (one.holds_step m laws first u s.events p (ran_of u s.service) 0 s.consoles cs o (record o2 { own = o2.own + ran }) s.clock r none can refl refl refl refl (omega (arith, counts, same)) live (inl refl) i.holds)

      open_after : (ending : Ending) → m.ending p t r ≡ ending → ending ≢ LoggedOut → m.is_open q ≡ true
      open_after ending e ne = laws.step_open p t r can (λ z. ne (sym e ∙ z))

      by_ending : (ending : Ending) (left : Bool) → m.ending p t r ≡ ending →
          Holds m first u s.events (m.step p t r) (ran_of u (service_after (record x { user = u }) (cause_of ending left))) (consoles_after ending u s.consoles) (fold (observe u) o2 (service_entry (record x { user = u }) (cause_of ending left)))
      by_ending Went true e = on (open_after Went e (λ z. cc))
      by_ending Went false e = off (suc x.ran) s.consoles refl (λ c z. open_after Went e (λ z. cc))
      by_ending Stopped left e = off (suc x.ran) s.consoles refl (λ c z. open_after Stopped e (λ z. cc))
      by_ending Resized left e = off (suc x.ran) s.consoles refl (λ c z. open_after Resized e (λ z. cc))
      by_ending Replaced left e = off (suc x.ran) s.consoles refl (λ c z. open_after Replaced e (λ z. cc))
      by_ending LoggedOut left e = off (suc x.ran) (without u s.consoles) refl (λ c z. absurd ((without_was u s.consoles c u z).1 refl))

  inv_goes_other : (s : SystemState S P F) (x : Service) → nat_eq x.user u ≡ false → x.user ≢ u → ran_of u s.service ≡ 0 → Inv m w first u script [] s →
      Inv m w first u script [] (system.goes m w x (system.state_of m w s x.user) s)
  inv_goes_other s x e' ne counts i =
      record {
        inside = rw length-put i.inside;
        holds = noting _ _ _ _ s.entries _ (rw (at-put_other w.nobody s.users x.user u (m.step p t r) (λ q. ne (sym q)), nothing_seen, none_ran)
            (one.holds_consoles m laws first u _ _ _ s.consoles _ _ (λ k. consoles_was (m.ending p t r) k) (subst (λ ran. Holds m first u s.events (system.state_of m w s u) ran s.consoles (observed u script s.entries)) counts i.holds)));
      }
    where
      p : S
      p = system.state_of m w s x.user

      r : Reply
      r = system.reply_for m w s.files (m.asks_common p)

      t : ℕ
      t = clock_for (m.asks_clock p) s.clock

      none_ran : (cause : Option Cause) → ran_of u (service_after x cause) ≡ 0
      none_ran None = rw e' refl
      none_ran (Some cause) = refl

      consoles_was : (ending : Ending) (k : ℕ) → at Off (consoles_after ending x.user s.consoles) k ≡ Session u → (d : ℕ) × (at Off s.consoles d ≡ Session u)
      consoles_was Went k e = (k, e)
      consoles_was Stopped k e = (k, e)
      consoles_was Resized k e = (k, e)
      consoles_was Replaced k e = (k, e)
      consoles_was LoggedOut k e = (k, (without_was x.user s.consoles k u e).0)

  inv_waits : (s : SystemState S P F) (x : Service) (p : S) → ran_of u s.service ≡ ran_of u (Some x) → Inv m w first u script [] s → Inv m w first u script [] (system.waits m w x p s)
  inv_waits s x p counts i =
      let o = observed u script s.entries in
      record {
        inside = i.inside;
        holds = noting _ _ _ _ s.entries _ (one.holds_served m laws first u _ _ (ran_of u s.service) 0 (if nat_eq x.user u then o.own + steps_of Wait (suc x.ran) else o.own) _ o
            (ap (λ z. o.own + z) counts ∙ served_counts (nat_eq x.user u) o.own x.ran (steps_of Wait (suc x.ran)) refl) (inl refl) i.holds);
      }

  inv_stepped : (s : SystemState S P F) (x : Service) → ran_of u s.service ≡ ran_of u (Some x) → Inv m w first u script [] s → Inv m w first u script [] (system.stepped m w x s)
  inv_stepped s x counts i = by_test (m.can_step (system.state_of m w s x.user)) refl
    where
      by_test : (b : Bool) → m.can_step (system.state_of m w s x.user) ≡ b → Inv m w first u script [] (if b then system.goes m w x (system.state_of m w s x.user) s else system.waits m w x (system.state_of m w s x.user) s)
      by_test false e = inv_waits s x _ counts i
      by_test true e =
          elim (eqb_tells x.user u) [
            | inl h ↦ subst (λ z. Inv m w first u script [] (system.goes m w (record x { user = z }) (system.state_of m w s z) s)) (sym h.1)
                (inv_goes_own s x h.1 (counts ∙ ap (λ b. cond b x.ran 0) h.0) (subst (λ z. m.can_step (system.state_of m w s z) ≡ true) h.1 e) i)
            | inr h ↦ inv_goes_other s x h.0 h.1 (counts ∙ ap (λ b. cond b x.ran 0) h.0) i
          ]

  inv_attended : (s : SystemState S P F) (x : Service) → ran_of u s.service ≡ ran_of u (Some x) → Inv m w first u script [] s → Inv m w first u script [] (system.attended m w x s)
  inv_attended s x counts i = by_test (w.must_load s.plan x.user (system.state_of m w s x.user))
    where
      by_test : (b : Bool) → Inv m w first u script [] (if b then system.swapped m w x.user s else system.stepped m w x s)
      by_test true = record { inside = i.inside; holds = noting _ _ _ _ s.entries (Swap _ _ _ _ _ ∷ []) i.holds }
      by_test false = inv_stepped s x counts i

  inv_otherwise : (limit : ℕ) (s : SystemState S P F) (chosen : Option ℕ) (service : Option Service) → s.service ≡ service → Inv m w first u script [] s → Inv m w first u script [] (system.otherwise m w limit chosen service s)
  inv_otherwise limit s None None is i = record { inside = i.inside; holds = i.holds }
  inv_otherwise limit s None (Some x) is i = inv_preempt s x is i
  inv_otherwise limit s (Some v) None is i = inv_attended s (record { tick = s.clock; user = v; level = w.level s.plan v; ran = 0 }) (ap (ran_of u) is ∙ zero_ran (nat_eq v u)) i
    where
      zero_ran : (b : Bool) → ◌≡◌ {A = ℕ} 0 (if b then 0 else 0)
      zero_ran true = refl
      zero_ran false = refl
  inv_otherwise limit s (Some v) (Some x) is i = by_test (nat_eq x.user v)
    where
      by_test : (b : Bool) → Inv m w first u script [] (if b then system.attended m w x s else system.preempt m w x s)
      by_test true = inv_attended s x (ap (ran_of u) is) i
      by_test false = inv_preempt s x is i

  inv_session_cut : (e : Timed) (s : SystemState S P F) (kind : CutKind) (c v : ℕ) → ((own : ℕ) (l : Line) → feed_items (kind_of kind) own l ≡ Cut own kind ∷ []) → Inv m w first u script (e ∷ []) s → Inv m w first u script [] (system.cut_at m w kind c v (system.stop_served m w v s))
  inv_session_cut e s kind c v gives i =
      inv_cut e (system.stop_served m w v s) kind c v gives
      (λ same. subst (λ z. ran_of u (system.stop_served_of m w s.service z s).service ≡ 0) (sym same) (none_served s s.service refl))
      (inv_stop_served (e ∷ []) s v s.service refl i)

  inv_at_console : (e : Timed) (s : SystemState S P F) (c : ℕ) (console : Console) (event : Event) → at Off s.consoles c ≡ console → e.event ≡ event →
      Inv m w first u script (e ∷ []) s → Inv m w first u script [] (system.at_console m w c console event s)
  inv_at_console e s c Off Dials there is i = inv_heard e s c DialTaken On [] (λ q. cc) (λ o. refl) i
  inv_at_console e s c Off (Types l) there is i = inv_heard e s c LineTaken Off [] (λ q. cc) (λ o. refl) i
  inv_at_console e s c Off Quits there is i = inv_heard e s c QuitTaken Off [] (λ q. cc) (λ o. refl) i
  inv_at_console e s c Off Hangs there is i = inv_heard e s c HangTaken Off [] (λ q. cc) (λ o. refl) i
  inv_at_console e s c On Dials there is i = inv_heard e s c DialTaken On [] (λ q. cc) (λ o. refl) i
  inv_at_console e s c On (Types l) there is i = by_name (w.asked l)
    where
      by_name : (name : Option ℕ) → Inv m w first u script [] (system.asks_in m w c name s)
      by_name None = inv_heard e s c LineTaken On (Refused s.clock c 1 ∷ []) (λ q. cc) (λ o. refl) i
      by_name (Some name) = inv_heard e s c LineTaken (Password name) [] (λ q. cc) (λ o. refl) i
  inv_at_console e s c On Quits there is i = inv_heard e s c QuitTaken On [] (λ q. cc) (λ o. refl) i
  inv_at_console e s c On Hangs there is i = inv_heard e s c HangTaken Off [] (λ q. cc) (λ o. refl) i
  inv_at_console e s c (Password name) Dials there is i = inv_heard e s c DialTaken (Password name) [] (λ q. cc) (λ o. refl) i
  inv_at_console e s c (Password name) (Types l) there is i = by_user (w.check name l)
    where
      by_user : (v : Option ℕ) → Inv m w first u script [] (system.logs_in m w c v s)
      by_user None = inv_heard e s c LineTaken On (Refused s.clock c 1 ∷ []) (λ q. cc) (λ o. refl) i
      by_user (Some v) = by_test (m.is_open (system.state_of m w s v)) refl
        where
          by_test : (b : Bool) → m.is_open (system.state_of m w s v) ≡ b → Inv m w first u script [] (if b then system.heard m w c LineTaken On (Refused s.clock c 2 ∷ []) s else system.opens m w c v s)
          by_test true q = inv_heard e s c LineTaken On (Refused s.clock c 2 ∷ []) (λ q. cc) (λ o. refl) i
          by_test false q = inv_opens e s c v q i
  inv_at_console e s c (Password name) Quits there is i = inv_heard e s c QuitTaken On [] (λ q. cc) (λ o. refl) i
  inv_at_console e s c (Password name) Hangs there is i = inv_heard e s c HangTaken Off [] (λ q. cc) (λ o. refl) i
  inv_at_console e s c (Session v) Dials there is i = inv_dialed e s c v _ i
  inv_at_console e s c (Session v) (Types l) there is i = by_test (nat_lt (m.lines (system.state_of m w s v)) system.max_lines)
    where
      by_test : (b : Bool) → Inv m w first u script [] (if b then system.line_at m w c v l s else system.cut_at m w Spent c v (system.stop_served m w v s))
      by_test true = inv_line e s c v l is there i
      by_test false = inv_session_cut e s Spent c v (λ own l. refl) i
  inv_at_console e s c (Session v) Quits there is i = inv_session_cut e s Quit c v (λ own l. refl) i
  inv_at_console e s c (Session v) Hangs there is i = inv_session_cut e s Hang c v (λ own l. refl) i

  inv_taken : (e : Timed) (rest : List Timed) (s : SystemState S P F) → s.events ≡ e ∷ rest → Inv m w first u script [] s → Inv m w first u script [] (system.taken m w e rest s)
  inv_taken e rest s is i =
      let popped : Inv m w first u script (e ∷ []) (record s { events = rest }) = record { inside = i.inside; holds = subst (λ (z : List Timed). Holds m first u z (system.state_of m w s u) (ran_of u s.service) s.consoles (observed u script s.entries)) is i.holds } in
      inv_at_console e (system.end_idling_of m w s.idling (record s { events = rest })) e.console _ e.event refl refl (inv_end_idling (e ∷ []) (record s { events = rest }) s.idling popped)

  inv_quiet : (limit : ℕ) (s : SystemState S P F) (x : Option (ℕ × ℕ)) → Inv m w first u script [] s → Inv m w first u script [] (system.quiet_by m w limit x s)
  inv_quiet limit s None i = inv_otherwise limit s (w.choose s.plan) s.service refl i
  inv_quiet limit s (Some x) i = record { inside = i.inside; holds = noting _ _ _ _ s.entries (Rise _ _ _ ∷ []) i.holds }

  inv_next_by : (limit : ℕ) (events : List Timed) (s : SystemState S P F) → s.events ≡ events → Inv m w first u script [] s → Inv m w first u script [] (system.next_by m w limit events s)
  inv_next_by limit [] s is i = inv_quiet limit s _ i
  inv_next_by limit (e ∷ rest) s is i = by_test (nat_le e.tick s.clock)
    where
      by_test : (b : Bool) → Inv m w first u script [] (if b then system.taken m w e rest s else system.quiet m w limit s)
      by_test true = inv_taken e rest s is i
      by_test false = inv_quiet limit s _ i

  pub inv_next : (limit : ℕ) (s : SystemState S P F) → Inv m w first u script [] s → Inv m w first u script [] (system.next m w limit s)
  inv_next limit s i = inv_next_by limit s.events s refl i

  pub inv_ended : (s : SystemState S P F) → Inv m w first u script [] s → Inv m w first u script [] (system.ended m w s)
  inv_ended s i = let t = system.end_open m w s.service s in inv_end_idling [] t t.idling (by_service s.service refl)
    where
      by_service : (service : Option Service) → s.service ≡ service → Inv m w first u script [] (system.end_open m w service s)
      by_service None is = i
      by_service (Some x) is = inv_end_service [] s x AtEnd refl is i
