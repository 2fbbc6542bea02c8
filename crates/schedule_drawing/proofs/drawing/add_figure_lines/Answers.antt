use Rattle.picture_model.specs.Drawing.{figures_drawn}
use Rattle.text_writer.proofs.Added.{◌⨾◌, adds_is}
use Rattle.schedule_drawing.proofs.Drawn.{attribute_is}
use Rattle.schedule_drawing.proofs.drawing.add_figure_lines.Goals as goal

pub returns : goal.returns
unfolding figures_drawn
returns g c =
    c.add.ensures ⨾ adds_is (attribute_is _ c.units.ensures.value) c.add_attribute.ensures
    ⨾ adds_is (attribute_is _ c.figures_top.ensures) c.add_attribute-2.ensures
    ⨾ c.add-2.ensures ⨾ c.add_figures.ensures ⨾ c.line.ensures
