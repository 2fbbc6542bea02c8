use Rattle.std.proofs.Common.{ℕ, ap, ◌∙◌, length}
use Rattle.text_model.specs.Parts.{in_places, column}
use Rattle.picture_model.specs.Columns.{mean}
use Rattle.text_writer.proofs.Added.{◌⨾◌, adds_is}
use Rattle.schedule_figures.proofs.tally.Tally.add_to.Goals as goal

pub returns : goal.returns
returns g c ns is =
    adds_is (ap (λ (n : ℕ). in_places 10 (mean n c.args.self.sum)) is.count ∙ ap (λ (n : ℕ). in_places 10 (mean (length ns) n)) is.sum) c.add_mean.ensures
    ⨾ adds_is (ap (column 8) is.greatest) c.add_column.ensures
