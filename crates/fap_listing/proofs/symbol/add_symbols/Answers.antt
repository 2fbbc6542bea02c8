use Rattle.fap_listing.proofs.Rows.{symbols_of}
use Rattle.text_writer.proofs.Added.{◌⨾◌, adds_is}
use Rattle.fap_listing.proofs.symbol.add_symbols.Goals as goal

pub returns-in-len1-up : goal.returns-in-len1-up
returns-in-len1-up g c =
    adds_is (symbols_of c.args.symbols.now c.args.definitions.now c.args.uses.now c.in-len1-up.len_at_least)
    (c.end_line.ensures ⨾ c.line.ensures ⨾ c.add_all.ensures)
