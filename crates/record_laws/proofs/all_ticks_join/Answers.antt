use Rattle.record_laws.proofs.Cover as laws
use Rattle.record_laws.proofs.all_ticks_join.Goals as goal

pub returns : goal.returns
returns g c = laws.all_ticks_join g.row.S.Denot g.row.P.Denot g.row.F.Denot
