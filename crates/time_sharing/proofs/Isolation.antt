use Rattle.std.proofs.Common.{◌≡◌, ℕ, suc, ◌+◌, ◌-◌, Bool, true, false, List, [], ◌∷◌, ◌++◌, Option, Some, None, is_some, refl, sym, ap, subst, ◌∙◌, arith, ◌⊎◌, inl, inr}
use Rattle.time_sharing.specs.Machine.{Machine, Laws, CutKind, Line, CommonOp, Reply, Done}
use Rattle.time_sharing.specs.Private.{Alone, Open, Typed, Cut, with_clock, with_reply, next_alone}
use Rattle.time_sharing.specs.Reach.{Reaches, LeadsTo, more, line_in}
use Rattle.time_sharing.specs.System.{Console, Off, Session, clock_for, at, Timed}
use Rattle.time_sharing.specs.Feeds.{Observed, rest_of}
use Rattle.time_sharing.proofs.Runs as runs

-- a state with no answer left to take
abbrev pub settled : {S : Type 0} (m : Machine S) → S → Alone S
settled m p = record { state = p; clocks = []; replies = [] }

abbrev pub starts : {S : Type 0} (m : Machine S) → S → Observed → Alone S
starts m first o = record { state = first; clocks = o.clocks; replies = o.replies }

-- What is true of a user in state p, with ran ticks of an open service, where the entries show o.
pub record Holds {S : Type 0} (m : Machine S) (first : S) (u : ℕ) (left : List Timed) (p : S) (ran : ℕ) (consoles : List Console) (o : Observed) : Type 0 where
  pub left_is : o.left ≡ left
  pub own : m.own p ≡ o.own + ran
  -- where the feed leads before the last run, and that run
  pub mid : Alone S
  pub goes : LeadsTo m o.items (starts m first o) mid
  pub count : ℕ
  pub reaches : Reaches m count mid (settled m p)
  -- a console in the user's session, and a service, are there only while the session is open
  pub live : (c : ℕ) → at Off consoles c ≡ Session u → m.is_open p ≡ true
  pub served : (ran ≡ 0) ⊎ (m.is_open p ≡ true)

module _ {S : Type 0} (m : Machine S) (laws : Laws m) (first : S) (u : ℕ) where
  -- Run(k) at k = the own steps so far
  pub run_here : (left : List Timed) (p : S) (ran : ℕ) (cs : List Console) (o : Observed) (h : Holds m first u left p ran cs o) → Reaches m (m.own p - m.own h.mid.state) h.mid (settled m p)
  run_here left p ran cs o h =
      let e : h.count ≡ m.own p - m.own h.mid.state = omega (arith, runs.reaches_own m laws h.count h.mid (settled m p) h.reaches) in
      subst (λ n. Reaches m n h.mid (settled m p)) e h.reaches

  -- a line comes
  pub holds_line : (left rest : List Timed) (p : S) (ran : ℕ) (cs cs' : List Console) (o : Observed) (l : Line) → m.is_open p ≡ true → rest_of left ≡ rest →
      Holds m first u left p ran cs o → Holds m first u rest (m.typed p l) ran cs' (record o { left = rest_of o.left; items = o.items ++ Typed l ∷ [] })
  holds_line left rest p ran cs cs' o l up r h =
      let up' : m.is_open (m.typed p l) ≡ true = laws.typed_open p l ∙ up in
      record {
        left_is = ap rest_of h.left_is ∙ r;
        own = laws.typed_own p l ∙ h.own;
        mid = line_in m l h.mid;
        goes = runs.goes_on m laws o.items (Typed l ∷ []) (starts m first o) h.mid _ h.goes refl;
        count = h.count;
        reaches = runs.reaches_line m laws l h.count h.mid (settled m p) up h.reaches;
        live = λ c e. up';
        served = inr up';
      }

  -- the user's session is cut, while no service of the user is open
  pub holds_cut : (left rest : List Timed) (p : S) (cs cs' : List Console) (o : Observed) (kind : CutKind) → rest_of left ≡ rest →
      ((c : ℕ) → at Off cs' c ≡ Session u → m.is_open (m.cut kind p) ≡ true) →
      Holds m first u left p 0 cs o → Holds m first u rest (m.cut kind p) 0 cs' (record o { left = rest_of o.left; items = o.items ++ Cut (m.own p) kind ∷ [] })
  holds_cut left rest p cs cs' o kind r live h =
      record {
        left_is = ap rest_of h.left_is ∙ r;
        own = laws.cut_own kind p ∙ h.own;
        mid = settled m (m.cut kind p);
        goes = runs.goes_on m laws o.items (Cut (m.own p) kind ∷ []) (starts m first o) h.mid _ h.goes (settled m p, run_here left p 0 cs o h, refl, refl);
        count = 0;
        reaches = refl;
        live = live;
        served = inl refl;
      }

  -- the user logs in
  pub holds_open : (left : List Timed) (p : S) (ran : ℕ) (cs cs' : List Console) (o : Observed) → m.is_open p ≡ false →
      Holds m first u left p ran cs o → Holds m first u left (m.opened p) ran cs' (record o { items = o.items ++ Open o.own ∷ [] })
  holds_open left p ran cs cs' o down h =
      let none : ran ≡ 0 = elim h.served [ inl e ↦ e | inr up ↦ cc (down, up) ] in
      let own : m.own p ≡ o.own = omega (arith, h.own, none) in
      record {
        left_is = h.left_is;
        own = laws.opened_own p ∙ h.own;
        mid = settled m (m.opened p);
        goes = runs.goes_on m laws o.items (Open o.own ∷ []) (starts m first o) h.mid _ h.goes
            (settled m p, subst (λ k. Reaches m (k - m.own h.mid.state) h.mid (settled m p)) own (run_here left p ran cs o h), own, refl);
        count = 0;
        reaches = refl;
        live = λ c e. laws.opened_open p;
        served = inr (laws.opened_open p);
      }

-- the answers that one step takes
abbrev pub clocks_in : Bool → ℕ → List ℕ
clocks_in false t = []
clocks_in true t = t ∷ []

abbrev pub replies_in : Option CommonOp → Reply → List Reply
replies_in None r = []
replies_in (Some op) r = r ∷ []

with_clock_in : {X : Type 0} (b : Bool) (t : ℕ) (k : ℕ → List ℕ → Option X) → with_clock b (clocks_in b t) k ≡ k (clock_for b t) []
with_clock_in false t k = refl
with_clock_in true t k = refl

-- one step on its own answers
next_own_answers : {S : Type 0} (m : Machine S) (p : S) (t : ℕ) (r : Reply) → (m.asks_common p ≡ None → r ≡ Done) → m.can_step p ≡ true →
    next_alone m (record { state = p; clocks = clocks_in (m.asks_clock p) t; replies = replies_in (m.asks_common p) r }) ≡ Some (settled m (m.step p (clock_for (m.asks_clock p) t) r))
next_own_answers m p t r none can = rw (can, with_clock_in) (with_reply_in (m.asks_common p) r none (λ r rs. Some (record { state = m.step p (clock_for (m.asks_clock p) t) r; clocks = []; replies = rs })))
  where
    with_reply_in : {X : Type 0} (c : Option CommonOp) (r : Reply) → (c ≡ None → r ≡ Done) → (k : Reply → List Reply → Option X) → with_reply (is_some c) (replies_in c r) k ≡ k r []
    with_reply_in None r d k = ap (λ z. k z []) (sym (d refl))
    with_reply_in (Some op) r d k = refl

module _ {S : Type 0} (m : Machine S) (laws : Laws m) (first : S) (u : ℕ) where
  -- one step of the user
  pub holds_step : (left : List Timed) (p : S) (ran ran' : ℕ) (cs cs' : List Console) (o o' : Observed) (t : ℕ) (r : Reply) →
      (m.asks_common p ≡ None → r ≡ Done) → m.can_step p ≡ true →
      let q = m.step p (clock_for (m.asks_clock p) t) r in
      o'.left ≡ o.left → o'.items ≡ o.items → o'.clocks ≡ o.clocks ++ clocks_in (m.asks_clock p) t → o'.replies ≡ o.replies ++ replies_in (m.asks_common p) r → suc (o.own + ran) ≡ o'.own + ran' →
      ((c : ℕ) → at Off cs' c ≡ Session u → m.is_open q ≡ true) → (ran' ≡ 0) ⊎ (m.is_open q ≡ true) →
      Holds m first u left p ran cs o → Holds m first u left q ran' cs' o'
  holds_step left p ran ran' cs cs' o o' t r none can e_left e_items e_clocks e_replies e_own live served h =
      let xs = clocks_in (m.asks_clock p) t in
      let ys = replies_in (m.asks_common p) r in
      let start : starts m first o' ≡ more m xs ys (starts m first o) = λ i. record { state = first; clocks = e_clocks i; replies = e_replies i } in
      record {
        left_is = e_left ∙ h.left_is;
        own = omega (arith, laws.rises p (clock_for (m.asks_clock p) t) r can, h.own, e_own);
        mid = more m xs ys h.mid;
        goes = rw (e_items, start) (runs.goes_more m laws xs ys o.items (starts m first o) h.mid h.goes);
        count = suc h.count;
        reaches = runs.reaches_step m laws h.count _ _ _ (runs.reaches_more m laws xs ys h.count h.mid (settled m p) h.reaches) (next_own_answers m p t r none can);
        live = live;
        served = served;
      }

  -- an entry that adds own steps of a service
  pub holds_served : (left : List Timed) (p : S) (ran ran' own' : ℕ) (cs : List Console) (o : Observed) → o.own + ran ≡ own' + ran' → (ran' ≡ 0) ⊎ (m.is_open p ≡ true) →
      Holds m first u left p ran cs o → Holds m first u left p ran' cs (record o { own = own' })
  holds_served left p ran ran' own' cs o e served h =
      record { left_is = h.left_is; own = h.own ∙ e; mid = h.mid; goes = h.goes; count = h.count; reaches = h.reaches; live = h.live; served = served }

  -- consoles in the user's session become no more
  pub holds_consoles : (left : List Timed) (p : S) (ran : ℕ) (cs cs' : List Console) (o : Observed) → ((c : ℕ) → at Off cs' c ≡ Session u → (d : ℕ) × (at Off cs d ≡ Session u)) →
      Holds m first u left p ran cs o → Holds m first u left p ran cs' o
  holds_consoles left p ran cs cs' o f h =
      record { left_is = h.left_is; own = h.own; mid = h.mid; goes = h.goes; count = h.count; reaches = h.reaches; live = λ c e. let g = f c e in h.live g.0 g.1; served = h.served }

  -- an event that isn't the user's
  pub holds_taken : (left rest : List Timed) (p : S) (ran : ℕ) (cs : List Console) (o : Observed) → rest_of left ≡ rest →
      Holds m first u left p ran cs o → Holds m first u rest p ran cs (record o { left = rest_of o.left })
  holds_taken left rest p ran cs o r h =
      record { left_is = ap rest_of h.left_is ∙ r; own = h.own; mid = h.mid; goes = h.goes; count = h.count; reaches = h.reaches; live = h.live; served = h.served }
