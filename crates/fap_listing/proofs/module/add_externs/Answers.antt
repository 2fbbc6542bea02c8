use Rattle.fap_listing.proofs.ModuleRows.{externs_of}
use Rattle.text_writer.proofs.Added.{◌⨾◌, adds_is}
use Rattle.fap_listing.proofs.module.add_externs.Goals as goal

pub returns-in-len1-up : goal.returns-in-len1-up
returns-in-len1-up g c = adds_is (externs_of c.args.names.now c.in-len1-up.len_at_least) (c.end_line.ensures ⨾ c.line.ensures ⨾ c.add_extern_lines.ensures)
