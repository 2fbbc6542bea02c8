use Rattle.std.specs.Prelude.{codes, if◌then◌else◌}
use Rattle.std.proofs.Common.{◌+◌, ◌*◌, ◌∙◌, Bool, [], sym, ap}
use Rattle.std.specs.Fmt.{decimal}
use Rattle.picture_model.specs.Drawing.{across, words_at}
use Rattle.text_writer.proofs.Added.{adds_is, adds_none}
use Rattle.schedule_drawing.proofs.level.add_idle_label.Goals as goal

pub returns-else-is_labelled : goal.returns-else-is_labelled
returns-else-is_labelled g c =
    adds_is
    (ap
    (λ (b : Bool). if b
    then words_at (codes "n cut") (across c.args.sheet.scale c.args.sheet.zoom c.args.place + c.args.sheet.zoom * 26)
    (94 * c.args.sheet.scale) (decimal c.args.ticks)
    else [])
    (sym (sym c.is_labelled.ensures ∙ c.if-is_labelled.false)))
    (adds_none g.K.Sink c.args.out.now)
