use Rattle.std.proofs.Common.{ℕ, ap, replicate}
use Rattle.text_writer.proofs.Added.{◌⨾◌, adds_is}
use Rattle.text_writer.proofs.columns.add_in_places.Goals as goal

pub returns : goal.returns
returns g c = adds_is (ap (λ (n : ℕ). replicate n 32) c.saturating_sub.ensures) c.add_blanks.ensures ⨾ c.add.ensures
