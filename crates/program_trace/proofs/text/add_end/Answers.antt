use Rattle.std.proofs.Common.{ap}
use Rattle.std.specs.Fmt.{decimal}
use Rattle.text_writer.proofs.Added.{◌⨾◌, adds_is}
use Rattle.program_trace.specs.Texts.{place_text}
use Rattle.program_trace.proofs.text.add_end.Goals as goal

pub returns : goal.returns
returns g c =
    (adds_is (ap decimal c.len.ensures) c.add_number.ensures ⨾ c.add.ensures ⨾ adds_is c.end_text.ensures c.add-2.ensures
    ⨾ adds_is (ap (place_text c.args.rows.now c.args.symbols.now) c.end_place.ensures) c.add_place.ensures) ⨾ c.end_line.ensures
