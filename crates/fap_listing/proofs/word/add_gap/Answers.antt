use Rattle.std.proofs.Common.{◌∙◌, ℕ, ap, replicate, arith}
use Rattle.std.proofs.lemmas.List.{take-replicate}
use Rattle.text_writer.proofs.Added.{adds_is}
use Rattle.fap_listing.proofs.word.add_gap.Goals as goal

pub returns : goal.returns
returns g c =
    adds_is
    (c.split_at.ensures.front ∙ take-replicate c.from.result 284 32 (omega (arith, c.requires, c.from.ensures)) ∙ ap (λ (n : ℕ). replicate n 32) c.from.ensures)
    c.add.ensures
