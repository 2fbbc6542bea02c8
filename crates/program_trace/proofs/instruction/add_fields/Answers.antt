use Rattle.std.proofs.Common.{ap, arith}
use Rattle.text_writer.proofs.Added.{◌⨾◌, adds_is}
use Rattle.fap_listing.specs.Words.{blanks}
use Rattle.program_trace.proofs.Lengths.{field_length}
use Rattle.program_trace.proofs.instruction.add_fields.Goals as goal

pub returns : goal.returns
returns g c =
    (c.add_address_field.ensures ⨾ c.add_tag_field.ensures ⨾ c.add_decrement_field.ensures)
    ⨾ adds_is (ap blanks (omega (arith, field_length c.args.symbols.now c.args.i.now))) c.add_gap.ensures
