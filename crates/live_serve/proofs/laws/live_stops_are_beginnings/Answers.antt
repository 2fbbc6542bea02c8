use Rattle.live_serve.proofs.laws.live_stops_are_beginnings.Goals as goal
use Rattle.live_serve.proofs.Stopping.{live_stops_are_beginnings}

pub returns : goal.returns
returns c = live_stops_are_beginnings
