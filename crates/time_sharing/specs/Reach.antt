-- claim: runs of the private machine that reach a given number of own steps.
use Rattle.std.specs.Prelude.{◌≡◌, ℕ, zero, suc, ◌-◌, List, [], ◌∷◌, ◌++◌, Some}
use Rattle.time_sharing.specs.Machine.{Machine, Line, Reply}
use Rattle.time_sharing.specs.Private.{Alone, FeedItem, Open, Typed, Cut, next_alone}

-- just n steps lead from s to e
abbrev pub Reaches : {S : Type 0} (m : Machine S) → ℕ → Alone S → Alone S → Type 0
Reaches m zero s e = s ≡ e
Reaches {S = S} m (suc n) s e = (mid : Alone S) × (next_alone m s ≡ Some mid) × Reaches m n mid e

-- the items lead from s to e, and each Open and Cut is reached after just its number of own steps
abbrev pub LeadsTo : {S : Type 0} (m : Machine S) → List FeedItem → Alone S → Alone S → Type 0
LeadsTo m [] s e = s ≡ e
LeadsTo {S = S} m (Open k ∷ items) s e = (mid : Alone S) × Reaches m (k - m.own s.state) s mid × (m.own mid.state ≡ k) × LeadsTo m items (record mid { state = m.opened mid.state }) e
LeadsTo m (Typed l ∷ items) s e = LeadsTo m items (record s { state = m.typed s.state l }) e
LeadsTo {S = S} m (Cut k kind ∷ items) s e = (mid : Alone S) × Reaches m (k - m.own s.state) s mid × (m.own mid.state ≡ k) × LeadsTo m items (record mid { state = m.cut kind mid.state }) e

-- with more answers behind those
abbrev pub more : {S : Type 0} (m : Machine S) → List ℕ → List Reply → Alone S → Alone S
more m xs ys s = record s { clocks = s.clocks ++ xs; replies = s.replies ++ ys }

-- with one more line behind the unread ones
abbrev pub line_in : {S : Type 0} (m : Machine S) → Line → Alone S → Alone S
line_in m l s = record s { state = m.typed s.state l }
