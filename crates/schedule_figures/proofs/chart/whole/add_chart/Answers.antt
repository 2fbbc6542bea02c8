use Rattle.std.proofs.Common.{List, ap, map}
use Rattle.ctss_types.specs.declared.history.Entry.{Entry}
use Rattle.picture_model.specs.Cores.{owner_in}
use Rattle.picture_model.specs.CoreLines.{core_lines, chart_over}
use Rattle.text_writer.proofs.Added.{◌⨾◌, adds_is}
use Rattle.schedule_figures.proofs.chart.whole.add_chart.Goals as goal

pub returns : goal.returns
unfolding chart_over
returns g c =
    c.add_rows_of_run.ensures
    ⨾ c.line.ensures
    ⨾ adds_is (ap (λ (l : List Entry). core_lines (map owner_in c.args.maps.now) l) c.as_slice.ensures) c.add_core_lines.ensures
