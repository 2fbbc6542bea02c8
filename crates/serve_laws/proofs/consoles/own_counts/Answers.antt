use Rattle.serve_laws.proofs.consoles.own_counts.Goals as goal
use Rattle.serve_laws.proofs.OwnCounts.{others_leave_it}

pub returns-clause-others : goal.returns-clause-others
returns-clause-others c = others_leave_it
