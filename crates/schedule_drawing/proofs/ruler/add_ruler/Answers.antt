use Rattle.std.proofs.Common.{◌≡◌, ◌+◌, ◌-◌, ◌*◌, ◌/◌, ◌++◌, ℕ, [], suc, ap, arith}
use Rattle.picture_model.specs.Drawing.{ruler, ruler_drawn, ruler_mark}
use Rattle.text_writer.proofs.Added.{◌⨾◌, adds_is, adds_none}
use Rattle.schedule_figures.proofs.Texts.{one_more, none_left}
use Rattle.schedule_drawing.proofs.Drawn.{ruler_next, ruler_none}
use Rattle.schedule_drawing.proofs.ruler.add_ruler.Goals as goal

pub loop-mark-init : goal.loop-mark-init
loop-mark-init g c =
    let all : suc (c.args.places / c.args.each) - 0 ≡ suc (c.args.places / c.args.each) = omega arith in (
      [],
      adds_none g.K.Sink c.args.out.now,
      ap (λ (n : ℕ). ruler_drawn c.args.sheet.scale c.args.sheet.zoom c.args.sheet.users c.args.each 0 n c.args.entries.now) all,
    )

pub loop-mark-preserved : goal.loop-mark-preserved
loop-mark-preserved g c =
    let count : ℕ = suc (c.args.places / c.args.each) in (
      c.loop-mark.invariant.0
          ++ ruler_mark c.args.sheet.scale c.args.sheet.zoom c.args.sheet.users (c.args.each * c.loop-mark.mark) c.args.entries.now,
      c.loop-mark.invariant.1 ⨾ c.add_mark.ensures,
      one_more c.loop-mark.invariant.0
          (ruler_mark c.args.sheet.scale c.args.sheet.zoom c.args.sheet.users (c.args.each * c.loop-mark.mark) c.args.entries.now)
          (ruler_drawn c.args.sheet.scale c.args.sheet.zoom c.args.sheet.users c.args.each (c.loop-mark.mark + 1)
          (count - (c.loop-mark.mark + 1)) c.args.entries.now)
          (ruler_drawn c.args.sheet.scale c.args.sheet.zoom c.args.sheet.users c.args.each c.loop-mark.mark (count - c.loop-mark.mark)
          c.args.entries.now)
          (ruler c.args.sheet.scale c.args.sheet.zoom c.args.sheet.users c.args.each c.args.places c.args.entries.now)
          (ruler_next c.args.sheet.scale c.args.sheet.zoom c.args.sheet.users c.args.each c.loop-mark.mark count c.args.entries.now
          (omega (arith, c.loop-mark-test.true)))
          c.loop-mark.invariant.2,
    )

pub returns : goal.returns
returns g c =
    let count : ℕ = suc (c.args.places / c.args.each) in
    adds_is
    (none_left c.loop-mark.invariant.0
    (ruler_drawn c.args.sheet.scale c.args.sheet.zoom c.args.sheet.users c.args.each c.loop-mark.mark (count - c.loop-mark.mark)
    c.args.entries.now)
    (ruler c.args.sheet.scale c.args.sheet.zoom c.args.sheet.users c.args.each c.args.places c.args.entries.now)
    (ruler_none c.args.sheet.scale c.args.sheet.zoom c.args.sheet.users c.args.each c.loop-mark.mark count c.args.entries.now
    (omega (arith, c.loop-mark-test.false)))
    c.loop-mark.invariant.2)
    c.loop-mark.invariant.1
