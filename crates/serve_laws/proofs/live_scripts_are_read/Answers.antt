use Rattle.serve_laws.proofs.live_scripts_are_read.Goals as goal
use Rattle.serve_laws.proofs.Lawful.{live_scripts_are_read}

pub returns : goal.returns
returns c = live_scripts_are_read
