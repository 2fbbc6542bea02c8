use Rattle.user_cores.proofs.Calls.{loads_shown}
use Rattle.user_cores.proofs.behind.BehindBacking.load.Goals as goal

pub returns-clause-loads : goal.returns-clause-loads
returns-clause-loads g c = loads_shown _ _ _ _ _ c.load_user.ensures
