use Rattle.serve_laws.proofs.consoles.cut_events_are_visits.Goals as goal
use Rattle.serve_laws.proofs.CutVisits.{cut_events_are_visits}

pub returns : goal.returns
returns c = cut_events_are_visits
