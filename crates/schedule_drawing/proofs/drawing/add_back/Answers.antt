use Rattle.std.proofs.Common.{List, ap}
use Rattle.ctss_types.specs.declared.history.Entry.{Entry}
use Rattle.picture_model.specs.Drawing.{drawn, idle_drawn}
use Rattle.text_writer.proofs.Added.{◌⨾◌, adds_is}
use Rattle.schedule_drawing.proofs.Drawn.{ruler_is}
use Rattle.schedule_drawing.proofs.drawing.add_back.Goals as goal

pub returns : goal.returns
returns g c =
    c.add_sheet.ensures ⨾ c.add_heading.ensures ⨾ c.add_legend.ensures
    ⨾ adds_is (ap (λ (l : List Entry). drawn (idle_drawn c.args.sheet.scale c.args.sheet.zoom c.args.sheet.users) 0 l) c.as_slice.ensures) c.add_layer.ensures
    ⨾ adds_is (ruler_is _ _ _ _ c.places_between.ensures.value c.as_slice-2.ensures) c.add_ruler.ensures
