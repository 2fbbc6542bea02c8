use Rattle.std.proofs.Common.{ℕ, ap, ◌∙◌}
use Rattle.text_model.specs.Canonical.{file_cards}
use Rattle.text_writer.proofs.Added.{adds_is}
use Rattle.script_read.proofs.text.add_file.Goals as goal

pub returns : goal.returns
returns g c =
    adds_is (ap (λ (n : ℕ). file_cards (record { owner = n; body = c.args.file.now.body })) (c.from.ensures ∙ c.number.ensures.value))
    c.add_owned_file.ensures
