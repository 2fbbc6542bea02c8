use Rattle.serve_laws.proofs.live_stopped_loads_are_few.Goals as goal
use Rattle.serve_laws.proofs.Loading.{live_stopped_loads_are_few}

pub returns : goal.returns
returns c = live_stopped_loads_are_few
