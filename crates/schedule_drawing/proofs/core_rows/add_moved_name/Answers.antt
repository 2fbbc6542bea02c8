use Rattle.std.specs.Prelude.{codes}
use Rattle.text_writer.proofs.Added.{adds_is}
use Rattle.schedule_drawing.proofs.Drawn.{words_are}
use Rattle.schedule_drawing.proofs.core_rows.add_moved_name.Goals as goal

pub returns : goal.returns
returns g c = adds_is (words_are (codes "w") c.args.name.now c.units.ensures.value c.moved_top.ensures) c.add_words.ensures
