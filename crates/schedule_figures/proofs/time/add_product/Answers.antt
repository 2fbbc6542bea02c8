use Rattle.std.proofs.Common.{ℕ, ◌*◌, ap, ◌∙◌}
use Rattle.std.specs.Fmt.{decimal}
use Rattle.text_writer.proofs.Added.{adds_is}
use Rattle.schedule_figures.proofs.Columns.{product_is}
use Rattle.schedule_figures.proofs.time.add_product.Goals as goal

pub returns : goal.returns
returns g c =
    adds_is (ap decimal (product_is c.from-swap.result c.args.blocks ∙ ap (λ (n : ℕ). n * c.args.blocks) c.from-swap.ensures))
    c.add_tens_and_units.ensures
