use Rattle.std.proofs.Common.{◌≡◌, ◌+◌, ap, arith}
use Rattle.picture_model.specs.Csv.{comma}
use Rattle.text_writer.proofs.Added.{◌⨾◌, adds_is}
use Rattle.schedule_figures.proofs.csv.add_service.Goals as goal

pub returns : goal.returns
returns g c =
    let until : c.from.result + c.from-2.result ≡ c.args.tick + c.args.ran = omega arith in
    (c.add.ensures ⨾ c.add_comma.ensures ⨾ adds_is (ap comma until) c.add_comma-2.ensures ⨾ c.add_comma-3.ensures ⨾ c.add_comma-4.ensures
    ⨾ c.add_end_of_service.ensures)
    ⨾ c.end_line.ensures
