use Rattle.std.proofs.Common.{◌+◌, ◌-◌, ◌++◌, [], refl}
use Rattle.picture_model.specs.Cores.{owner_in}
use Rattle.picture_model.specs.CorePanel.{place_drawn, places_drawn}
use Rattle.schedule_figures.specs.Maps.{users_of}
use Rattle.text_writer.proofs.Added.{◌⨾◌, adds_is, adds_none}
use Rattle.schedule_figures.proofs.Texts.{one_more, none_left}
use Rattle.schedule_drawing.proofs.Panel.{places_next, places_none}
use Rattle.schedule_drawing.proofs.stretch.add_places.Goals as goal

pub loop-place-init : goal.loop-place-init
loop-place-init g c = ([], adds_none g.K.Sink c.args.out.now, refl)

pub loop-place-preserved : goal.loop-place-preserved
loop-place-preserved g c =
    let s = c.args.sheet in
    let span = c.args.span in
    let owner = owner_in (users_of c.args.core.now) in
    let e = c.args.entry.now in
    let place = c.loop-place.place in (
      c.loop-place.invariant.0 ++ place_drawn s.scale s.zoom s.users span.from span.until owner e place,
      c.loop-place.invariant.1 ⨾ c.add_place.ensures,
      one_more c.loop-place.invariant.0 (place_drawn s.scale s.zoom s.users span.from span.until owner e place)
          (places_drawn s.scale s.zoom s.users span.from span.until owner e (place + 1) (128 - (place + 1)))
          (places_drawn s.scale s.zoom s.users span.from span.until owner e place (128 - place))
          (places_drawn s.scale s.zoom s.users span.from span.until owner e 0 128)
          (places_next s.scale s.zoom s.users span.from span.until owner e place c.loop-place-test.true)
          c.loop-place.invariant.2,
    )

pub returns : goal.returns
returns g c =
    let s = c.args.sheet in
    let span = c.args.span in
    let owner = owner_in (users_of c.args.core.now) in
    let e = c.args.entry.now in
    let place = c.loop-place.place in
    adds_is
    (none_left c.loop-place.invariant.0 (places_drawn s.scale s.zoom s.users span.from span.until owner e place (128 - place))
    (places_drawn s.scale s.zoom s.users span.from span.until owner e 0 128)
    (places_none s.scale s.zoom s.users span.from span.until owner e place c.loop-place-test.false)
    c.loop-place.invariant.2)
    c.loop-place.invariant.1
