use Rattle.std.specs.Prelude.{codes}
use Rattle.std.proofs.Common.{◌∙◌}
use Rattle.text_writer.proofs.Added.{◌⨾◌, adds_is}
use Rattle.schedule_drawing.proofs.Drawn.{minus_is, words_are}
use Rattle.schedule_drawing.proofs.core_rows.add_core_names.Goals as goal

pub returns : goal.returns
returns g c =
    adds_is
    (words_are (codes "w") (codes "Core: whose each place is behind each load; below, how many blocks were moved for it.") c.units.ensures.value (c.saturating_sub.ensures ∙ minus_is c.place_top.ensures.value c.units-2.ensures.value))
    c.add_words.ensures
    ⨾ c.add_place_names.ensures ⨾ c.add_moved_name.ensures ⨾ c.add_moved_name-2.ensures ⨾ c.add_moved_name-3.ensures
