use Rattle.std.proofs.Common.{ℕ, ◌+◌, ap, ◌∙◌, arith}
use Rattle.std.proofs.lemmas.List.{take_all}
use Rattle.picture_model.specs.Figures.{total}
use Rattle.schedule_figures.specs.Time.{served_of}
use Rattle.schedule_figures.proofs.Times.{total_more}
use Rattle.schedule_figures.proofs.time.served_in.Goals as goal

pub loop-entry-preserved : goal.loop-entry-preserved
loop-entry-preserved c = record {
  value =
      ap (λ (n : ℕ). c.loop-entry.served + n) (c.from-served.ensures ∙ c.served_of.ensures)
      ∙ ap (λ (n : ℕ). n + served_of c.entry-item.result) c.loop-entry.invariant.value
      ∙ total_more served_of c.args.entries.now c.loop-entry.entry-index c.entry-item.result c.loop-entry-test.true c.entry-item.is;
  below = omega arith;
}

pub returns : goal.returns
returns c =
    c.loop-entry.invariant.value ∙ ap (total served_of) (take_all c.loop-entry.entry-index c.args.entries.now c.loop-entry-test.false)
