use Rattle.time_sharing.proofs.ClaimsProved.{each_moment}
use Rattle.time_sharing.proofs.each_moment_is_alone.Goals as goal

pub returns : goal.returns
returns g c = each_moment g.row.S.Denot g.row.P.Denot g.row.F.Denot
