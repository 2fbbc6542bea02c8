-- proof: what the code keeps of a user's visits.
use Rattle.std.specs.Prelude.{◌≡◌, ◌≤◌, ◌*◌, ◌^◌, ℕ, List, map, sum}
use Rattle.picture_model.specs.Figures.{responses, turnarounds, wait_of}
use Rattle.picture_model.specs.declared.request.Visit.{Visit}
use Rattle.schedule_figures.specs.declared.requests.Requests.{Requests}
use Rattle.schedule_figures.specs.Tallies.{IsTally, IsTallyOfFew}

-- visits, in the order of a schedule
abbrev pub Visits : Type 0
Visits = List Visit

-- the code's requests are what these visits come to
pub record AreRequests (r : Requests) (vs : List Visit) : Type 0 where
  pub waited : r.waited ≡ sum (map wait_of vs)
  pub responses : IsTally r.responses (responses vs)
  pub turnarounds : IsTally r.turnarounds (turnarounds vs)

-- of at most so many visits
pub record AreFewRequests (n : ℕ) (r : Requests) : Type 0 where
  pub waited : r.waited ≤ 2 ^ 64 * n
  pub responses : IsTallyOfFew n r.responses
  pub turnarounds : IsTallyOfFew n r.turnarounds
