use Rattle.std.proofs.Common.{◌≡◌, ◌+◌, ◌++◌, ◌∙◌, ℕ, [], drop, refl, sym, ap, arith}
use Rattle.picture_model.specs.declared.request.Track.{Track}
use Rattle.picture_model.specs.declared.request.Track.TheVariants.{Fresh}
use Rattle.picture_model.specs.Requests.{track_after}
use Rattle.picture_model.specs.Folds.{cut_of}
use Rattle.picture_model.specs.Drawing.{wait_drawn, waits_drawn}
use Rattle.text_writer.proofs.Added.{◌⨾◌, adds_is, adds_none}
use Rattle.schedule_figures.proofs.Texts.{one_more, none_left}
use Rattle.schedule_drawing.proofs.Drawn.{waits_next, waits_none}
use Rattle.schedule_drawing.proofs.wait.add_waits.Goals as goal

pub loop-entry-init : goal.loop-entry-init
loop-entry-init g c = ([], adds_none g.K.Sink c.args.out.now, refl, omega arith)

pub loop-entry-preserved : goal.loop-entry-preserved
loop-entry-preserved g c =
    let scale = c.args.sheet.scale in
    let zoom = c.args.sheet.zoom in
    let u = c.args.user in
    let cut = c.loop-entry.cut in
    let t = c.loop-entry.track in
    let e = c.entry-item.result in
    let rest = drop (c.loop-entry.entry-index + 1) c.args.entries.now in
    let is : cut_of e ≡ c.from-cut.result = sym (c.from-cut.ensures ∙ c.cut_of.ensures) in (
      c.loop-entry.invariant.0 ++ wait_drawn scale zoom u cut t e,
      c.loop-entry.invariant.1 ⨾ c.add_wait.ensures,
      one_more c.loop-entry.invariant.0 (wait_drawn scale zoom u cut t e) (waits_drawn scale zoom u (cut + c.from-cut.result) c.after-track.result rest)
          (waits_drawn scale zoom u cut t (drop c.loop-entry.entry-index c.args.entries.now)) (waits_drawn scale zoom u 0 Fresh c.args.entries.now)
          (waits_next scale zoom u cut t c.args.entries.now c.loop-entry.entry-index e c.loop-entry-test.true c.entry-item.is
          ∙ ap (λ (n : ℕ). wait_drawn scale zoom u cut t e ++ waits_drawn scale zoom u (cut + n) (track_after u t e) rest) is
          ∙ ap (λ (s : Track). wait_drawn scale zoom u cut t e ++ waits_drawn scale zoom u (cut + c.from-cut.result) s rest) (sym c.after-track.ensures))
          c.loop-entry.invariant.2,
      omega (arith, c.loop-entry.invariant.3),
    )

pub overflow_add-cut : goal.overflow_add-cut
overflow_add-cut g c = omega (arith, c.loop-entry.invariant.3)

pub returns : goal.returns
returns g c =
    adds_is
    (none_left c.loop-entry.invariant.0
    (waits_drawn c.args.sheet.scale c.args.sheet.zoom c.args.user c.loop-entry.cut c.loop-entry.track (drop c.loop-entry.entry-index c.args.entries.now))
    (waits_drawn c.args.sheet.scale c.args.sheet.zoom c.args.user 0 Fresh c.args.entries.now)
    (waits_none c.args.sheet.scale c.args.sheet.zoom c.args.user c.loop-entry.cut c.loop-entry.track c.args.entries.now c.loop-entry.entry-index c.loop-entry-test.false)
    c.loop-entry.invariant.2)
    c.loop-entry.invariant.1
