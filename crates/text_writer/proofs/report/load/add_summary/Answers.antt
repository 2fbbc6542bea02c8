use Rattle.std.specs.Prelude.{codes}
use Rattle.std.proofs.Common.{ap, ◌∙◌}
use Rattle.time_sharing.specs.Sums.{serves_in, swaps_in, dumped_in, read_in, steps_in}
use Rattle.text_model.specs.Summary.{items_in, counted, summary_of}
use Rattle.text_writer.proofs.Added.{◌⨾◌, adds_is}
use Rattle.text_writer.proofs.report.load.add_summary.Goals as goal

pub returns : goal.returns
unfolding summary_of
returns g c =
    adds_is (ap (counted (codes "LOAD")) c.from.ensures) c.add_counted.ensures
    ⨾ adds_is (ap (counted (codes "USERS")) c.len.ensures) c.add_counted-2.ensures
    ⨾ adds_is (ap (counted (codes "ITEMS")) (c.items_in.ensures ∙ ap items_in c.as_slice-2.ensures)) c.add_counted-3.ensures
    ⨾ adds_is (ap (counted (codes "SERVES")) (c.sums_over-sums.ensures.serves ∙ ap serves_in c.as_slice.ensures)) c.add_counted-4.ensures
    ⨾ adds_is (ap (counted (codes "SWAPS")) (c.sums_over-sums.ensures.swaps ∙ ap swaps_in c.as_slice.ensures)) c.add_counted-5.ensures
    ⨾ adds_is (ap (counted (codes "DUMPED")) (c.sums_over-sums.ensures.dumped ∙ ap dumped_in c.as_slice.ensures)) c.add_counted-6.ensures
    ⨾ adds_is (ap (counted (codes "READ")) (c.sums_over-sums.ensures.read ∙ ap read_in c.as_slice.ensures)) c.add_counted-7.ensures
    ⨾ adds_is (ap (counted (codes "STEPS")) (c.sums_over-sums.ensures.steps ∙ ap steps_in c.as_slice.ensures)) c.add_counted-8.ensures
    ⨾ adds_is (ap (counted (codes "END")) c.from-2.ensures) c.add_counted-9.ensures
