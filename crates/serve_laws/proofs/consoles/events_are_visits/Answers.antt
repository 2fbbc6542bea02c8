use Rattle.serve_laws.proofs.consoles.events_are_visits.Goals as goal
use Rattle.serve_laws.proofs.Visiting.{events_are_visits}

pub returns : goal.returns
returns c = events_are_visits
