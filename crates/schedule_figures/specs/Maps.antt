-- claim: whose each place of core is after each load, as it is kept: in parts of one user each.
use Rattle.std.specs.Prelude.{◌≡◌, ℕ, zero, suc, ◌-◌, ◌≤◌, List, [], ◌∷◌, ◌++◌, get_or, take, drop, replicate}
use Rattle.schedule_figures.specs.declared.chart.maps.CorePart.{CorePart}

-- the users of all places of these parts, one behind another
abbrev pub users_of : List CorePart → List ℕ
users_of [] = []
users_of (p ∷ ps) = replicate p.count p.user ++ users_of ps

-- the same for each load: its parts go from where those of the load before end, the first ones from here
abbrev pub maps_in : (from : ℕ) → (ends : List ℕ) → List CorePart → List (List ℕ)
maps_in from [] ps = []
maps_in from (e ∷ ends) ps = users_of (take (e - from) (drop from ps)) ∷ maps_in e ends ps

-- each ends behind the one before, and the last of them here
abbrev pub AreEnds : (from : ℕ) → (ends : List ℕ) → (last : ℕ) → Type 0
AreEnds from [] last = from ≡ last
AreEnds from (e ∷ ends) last = (from ≤ e) × AreEnds e ends last

-- where the parts of a load begin
abbrev pub start_in : (ends : List ℕ) → (load : ℕ) → ℕ
start_in ends zero = 0
start_in ends (suc i) = get_or ends i 0

-- the parts of a core with these owners were put behind others
pub record Lays (owners : List ℕ) (old new : List CorePart) : Type 0 where
  pub more : List CorePart
  pub parts : new ≡ old ++ more
  pub users : users_of more ≡ owners
