use Rattle.std.proofs.Common.{subst, ℕ}
use Rattle.text_model.specs.Canonical.{octal}
use Rattle.text_writer.specs.Writing.{Adds}
use Rattle.text_writer.proofs.Added.{◌⨾◌}
use Rattle.text_writer.proofs.cards.add_word.Goals as goal

pub returns : goal.returns
returns g c =
    subst (λ (bits : ℕ). Adds g.K.Sink (octal bits) c.args.out.now c.add_digits.new.out) c.bits.ensures.bits (c.add.ensures ⨾ c.add_digits.ensures)
