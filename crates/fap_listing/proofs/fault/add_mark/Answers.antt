use Rattle.std.proofs.Common.{ℕ, ◌+◌, ap}
use Rattle.fap_listing.specs.Words.{blanks}
use Rattle.text_writer.proofs.Added.{◌⨾◌, adds_is}
use Rattle.fap_listing.proofs.fault.add_mark.Goals as goal

pub returns : goal.returns
returns g c = (adds_is (ap (λ (n : ℕ). blanks (29 + n)) c.from.ensures) c.add_gap.ensures ⨾ c.add.ensures) ⨾ c.end_line.ensures
