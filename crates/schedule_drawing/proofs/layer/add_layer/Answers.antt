use Rattle.std.proofs.Common.{◌≡◌, ◌+◌, ◌++◌, ◌∙◌, ℕ, [], drop, refl, sym, ap, arith}
use Rattle.picture_model.specs.Folds.{cut_of}
use Rattle.picture_model.specs.Drawing.{drawn}
use Rattle.text_writer.proofs.Added.{◌⨾◌, adds_is, adds_none}
use Rattle.schedule_figures.proofs.Texts.{one_more, none_left}
use Rattle.schedule_drawing.proofs.Drawn.{drawn_next, drawn_none}
use Rattle.schedule_drawing.proofs.layer.add_layer.Goals as goal

pub loop-entry-init : goal.loop-entry-init
loop-entry-init g c = ([], adds_none g.K.Sink c.args.out.now, refl, omega arith)

pub loop-entry-preserved : goal.loop-entry-preserved
loop-entry-preserved g c =
    let what = g.L.Layer.text c.args.layer.now in
    let cut = c.loop-entry.cut in
    let rest = drop (c.loop-entry.entry-index + 1) c.args.entries.now in
    let is : cut_of c.entry-item.result ≡ c.from-cut.result = sym (c.from-cut.ensures ∙ c.cut_of.ensures) in (
      c.loop-entry.invariant.0 ++ what cut c.entry-item.result,
      c.loop-entry.invariant.1 ⨾ c.add.ensures,
      one_more c.loop-entry.invariant.0 (what cut c.entry-item.result) (drawn what (cut + c.from-cut.result) rest)
          (drawn what cut (drop c.loop-entry.entry-index c.args.entries.now)) (drawn what 0 c.args.entries.now)
          (drawn_next what cut c.args.entries.now c.loop-entry.entry-index c.entry-item.result c.loop-entry-test.true c.entry-item.is
          ∙ ap (λ (n : ℕ). what cut c.entry-item.result ++ drawn what (cut + n) rest) is)
          c.loop-entry.invariant.2,
      omega (arith, c.loop-entry.invariant.3),
    )

pub overflow_add-cut : goal.overflow_add-cut
overflow_add-cut g c = omega (arith, c.loop-entry.invariant.3)

pub returns : goal.returns
returns g c =
    let what = g.L.Layer.text c.args.layer.now in
    adds_is
    (none_left c.loop-entry.invariant.0 (drawn what c.loop-entry.cut (drop c.loop-entry.entry-index c.args.entries.now))
    (drawn what 0 c.args.entries.now)
    (drawn_none what c.loop-entry.cut c.args.entries.now c.loop-entry.entry-index c.loop-entry-test.false) c.loop-entry.invariant.2)
    c.loop-entry.invariant.1
