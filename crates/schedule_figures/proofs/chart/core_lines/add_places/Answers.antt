use Rattle.std.proofs.Common.{◌+◌, ◌-◌, ◌++◌, [], refl}
use Rattle.picture_model.specs.Cores.{owner_in}
use Rattle.picture_model.specs.CoreLines.{place_text, places_text}
use Rattle.schedule_figures.specs.Maps.{users_of}
use Rattle.text_writer.proofs.Added.{◌⨾◌, adds_is, adds_none}
use Rattle.schedule_figures.proofs.Loads.{places_next, places_none}
use Rattle.schedule_figures.proofs.Texts.{one_more, none_left}
use Rattle.schedule_figures.proofs.chart.core_lines.add_places.Goals as goal

pub loop-place-init : goal.loop-place-init
loop-place-init g c = ([], adds_none g.K.Sink c.args.out.now, refl)

pub loop-place-preserved : goal.loop-place-preserved
loop-place-preserved g c =
    let owner = owner_in (users_of c.args.core.now) in
    let place = c.loop-place.place in (
      c.loop-place.invariant.0 ++ place_text owner place,
      c.loop-place.invariant.1 ⨾ c.add_place.ensures,
      one_more c.loop-place.invariant.0 (place_text owner place) (places_text owner (place + 1) (128 - (place + 1)))
          (places_text owner place (128 - place)) (places_text owner 0 128)
          (places_next owner place c.loop-place-test.true) c.loop-place.invariant.2,
    )

pub returns : goal.returns
returns g c =
    let owner = owner_in (users_of c.args.core.now) in
    let place = c.loop-place.place in
    adds_is
    (none_left c.loop-place.invariant.0 (places_text owner place (128 - place)) (places_text owner 0 128)
    (places_none owner place c.loop-place-test.false) c.loop-place.invariant.2)
    c.loop-place.invariant.1
