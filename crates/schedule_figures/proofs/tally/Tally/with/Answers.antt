use Rattle.std.proofs.Common.{arith}
use Rattle.schedule_figures.proofs.Tallies.{tally_more}
use Rattle.schedule_figures.proofs.tally.Tally.with.Goals as goal

pub returns-clause-tally : goal.returns-clause-tally
returns-clause-tally c ns is = tally_more c.args.self _ ns c.args.number is (omega arith) (omega arith) c.max.ensures
