use Rattle.std.proofs.Common.{ℕ, ap, ◌∙◌}
use Rattle.picture_model.specs.Chart.{places_each, column_count, chart_with, chart_of}
use Rattle.picture_model.specs.Folds.{places_in}
use Rattle.text_writer.proofs.Added.{adds_is}
use Rattle.schedule_figures.proofs.chart.whole.add_rows_of_run.Goals as goal

pub returns : goal.returns
unfolding chart_of
returns g c =
    adds_is
    (ap (λ (each : ℕ). chart_with each c.columns_for.result.count c.args.script.now c.args.run.now) (c.columns_for.ensures.each ∙ ap places_each c.places_in.ensures)
    ∙ ap (λ (count : ℕ). chart_with (places_each (places_in c.args.run.now)) count c.args.script.now c.args.run.now)
    (c.columns_for.ensures.count ∙ ap column_count c.places_in.ensures))
    c.add_in_columns.ensures
