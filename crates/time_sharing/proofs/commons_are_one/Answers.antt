use Rattle.time_sharing.proofs.ClaimsProved.{commons_are_one}
use Rattle.time_sharing.proofs.commons_are_one.Goals as goal

pub returns : goal.returns
returns g c = commons_are_one g.row.S.Denot g.row.P.Denot g.row.F.Denot
