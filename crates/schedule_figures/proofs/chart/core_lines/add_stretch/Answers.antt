use Rattle.std.specs.Fmt.{decimal}
use Rattle.std.proofs.Common.{◌≡◌, ◌+◌, ◌-◌, ap, arith}
use Rattle.text_writer.proofs.Added.{◌⨾◌, adds_is}
use Rattle.schedule_figures.proofs.chart.core_lines.add_stretch.Goals as goal

pub returns : goal.returns
returns g c =
    let last : c.from.result + c.from-2.result ≡ c.args.place + (c.args.count - 1) =
    omega (arith, c.from.ensures, c.from-2.ensures, c.saturating_sub.ensures) in
    c.add.ensures
    ⨾ c.add_number.ensures
    ⨾ c.add-2.ensures
    ⨾ adds_is (ap decimal last) c.add_number-2.ensures
    ⨾ c.add-3.ensures
    ⨾ c.add_number-3.ensures
