use Rattle.std.proofs.Common.{◌≡◌, ◌+◌, ◌-◌, ◌/◌, min, refl}
use Rattle.schedule_figures.proofs.Painted.{painted_mark}
use Rattle.schedule_figures.proofs.chart.row.Row.paint.Goals as goal

pub returns : goal.returns
returns c =
    let from : c.min-first.result ≡ min (c.args.at / c.args.self.now.each) 110 = cc in
    let to : c.min.result ≡ min ((c.args.at + (c.args.ticks - 1)) / c.args.self.now.each) 109 = cc in
    painted_mark c.args.at c.args.ticks c.args.character c.min-first.result c.min.result c.args.self.now _ refl from to
    c.raise.ensures.before c.raise.ensures.within c.raise.ensures.behind
