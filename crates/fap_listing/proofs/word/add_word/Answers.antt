use Rattle.fap_listing.proofs.Rows.{prefixed_is, addressed_is}
use Rattle.text_writer.proofs.Added.{◌⨾◌, adds_is}
use Rattle.fap_listing.proofs.word.add_word.Goals as goal

pub returns-in-Prefixed : goal.returns-in-Prefixed
returns-in-Prefixed g c =
    adds_is (prefixed_is c.args.split c.args.word c.bits-bits.result c.in-Prefixed.is c.bits-bits.ensures.bits)
    (c.add_digits.ensures ⨾ c.add_gap.ensures ⨾ c.add_digits-in-Prefixed.ensures ⨾ c.add_gap-in-Prefixed.ensures ⨾ c.add_digits-in-Prefixed-2.ensures
    ⨾ c.add_gap-in-Prefixed-2.ensures ⨾ c.add_digits-in-Prefixed-3.ensures)

pub returns-in-Addressed : goal.returns-in-Addressed
returns-in-Addressed g c =
    adds_is (addressed_is c.args.split c.args.word c.bits-bits.result c.in-Addressed.is c.bits-bits.ensures.bits)
    (c.add_digits-in-Addressed.ensures ⨾ c.add_gap-in-Addressed.ensures ⨾ c.add_digits-in-Addressed-2.ensures ⨾ c.add_gap-in-Addressed-2.ensures
    ⨾ c.add_digits-in-Addressed-3.ensures)
