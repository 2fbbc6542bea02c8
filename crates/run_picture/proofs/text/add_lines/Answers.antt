use Rattle.picture_model.specs.FigureLines.{figures_of}
use Rattle.run_picture.proofs.text.add_lines.Goals as goal

pub returns : goal.returns
unfolding figures_of
returns g c = c.add_figures.ensures
