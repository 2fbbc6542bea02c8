use Rattle.live_run.proofs.laws.stopped_loads_are_few.Goals as goal
use Rattle.live_run.proofs.Loading.{stopped_loads_are_few, stopped_part_loads_are_few}

pub returns-clause-script : goal.returns-clause-script
returns-clause-script c = stopped_loads_are_few

pub returns-clause-parts : goal.returns-clause-parts
returns-clause-parts c = stopped_part_loads_are_few
