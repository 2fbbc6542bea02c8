use Rattle.std.proofs.Common.{ℕ, ◌+◌, ap, ◌∙◌, arith}
use Rattle.std.proofs.lemmas.List.{take_all}
use Rattle.picture_model.specs.Figures.{total}
use Rattle.schedule_figures.specs.Time.{idle_of}
use Rattle.schedule_figures.proofs.Times.{total_more}
use Rattle.schedule_figures.proofs.time.idle_in.Goals as goal

pub loop-entry-preserved : goal.loop-entry-preserved
loop-entry-preserved c = record {
  value =
      ap (λ (n : ℕ). c.loop-entry.idle + n) (c.from-idle.ensures ∙ c.idle_of.ensures)
      ∙ ap (λ (n : ℕ). n + idle_of c.entry-item.result) c.loop-entry.invariant.value
      ∙ total_more idle_of c.args.entries.now c.loop-entry.entry-index c.entry-item.result c.loop-entry-test.true c.entry-item.is;
  below = omega arith;
}

pub returns : goal.returns
returns c =
    c.loop-entry.invariant.value ∙ ap (total idle_of) (take_all c.loop-entry.entry-index c.args.entries.now c.loop-entry-test.false)
