use Rattle.std.proofs.Common.{arith}
use Rattle.schedule_figures.proofs.Kept.{after_load}
use Rattle.schedule_figures.proofs.chart.maps.CoreMaps.after.Goals as goal

pub returns-then-load-count : goal.returns-then-load-count
returns-then-load-count c =
    let swap = c.in-Swap in
    after_load c.args.self.now c.args.load c.args.entry.now swap.tick swap.user swap.dumped swap.read swap.fresh
    (omega (arith, c.count.ensures, c.if-load-count.true)) swap.is
