use Rattle.schedule_figures.proofs.Painted.{row_text}
use Rattle.text_writer.proofs.Added.{adds_is}
use Rattle.schedule_figures.proofs.chart.rows.add_level_row.Goals as goal

pub returns : goal.returns
returns g c =
    adds_is (row_text c.args.columns.each c.args.columns.count _ c.level_row.result c.add_cells.ensures.size c.args.columns.few c.level_row.ensures)
    c.add_cells.ensures.text
