use Rattle.time_sharing.proofs.ClaimsProved.{rows_isolated}
use Rattle.time_sharing.proofs.users_by_rows_are_isolated.Goals as goal

pub returns : goal.returns
returns g c = rows_isolated g.row.A.Denot g.row.P.Denot g.row.F.Denot
