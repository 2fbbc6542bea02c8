use Rattle.serve_laws.proofs.live_runs_are_replayed.Goals as goal
use Rattle.serve_laws.proofs.Replayed.{live_runs_are_replayed}

pub returns : goal.returns
returns c = live_runs_are_replayed
