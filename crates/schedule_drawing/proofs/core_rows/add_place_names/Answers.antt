use Rattle.picture_model.specs.CorePanel.{place_name}
use Rattle.text_writer.proofs.Added.{adds_none, adds_next, adds_all}
use Rattle.schedule_drawing.proofs.core_rows.add_place_names.Goals as goal

pub loop-place-init : goal.loop-place-init
loop-place-init g c = adds_none g.K.Sink c.args.out.now

pub loop-place-preserved : goal.loop-place-preserved
loop-place-preserved g c =
    adds_next g.K.Sink (place_name c.args.sheet.scale c.args.sheet.users) c.args.places.now c.loop-place.place-index 0 _ _ _
    c.loop-place-test.true c.loop-place.invariant c.add_place_name.ensures

pub returns : goal.returns
returns g c =
    adds_all g.K.Sink (place_name c.args.sheet.scale c.args.sheet.users) c.args.places.now c.loop-place.place-index _ _
    c.loop-place-test.false c.loop-place.invariant
