use Rattle.std.specs.Prelude.{codes}
use Rattle.picture_model.specs.Drawing.{how_read, how_read_further, legend}
use Rattle.text_writer.proofs.Added.{◌⨾◌, adds_is}
use Rattle.schedule_drawing.proofs.Drawn.{words_are}
use Rattle.schedule_drawing.proofs.drawing.add_legend.Goals as goal

pub returns : goal.returns
unfolding legend
returns g c =
    adds_is (words_are (codes "w") how_read c.units.ensures.value c.units-2.ensures.value) c.add_words.ensures
    ⨾ adds_is (words_are (codes "w") how_read_further c.units-3.ensures.value c.units-4.ensures.value) c.add_words-2.ensures
