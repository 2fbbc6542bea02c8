use Rattle.fap_listing.proofs.ModuleRows.{entries_of}
use Rattle.text_writer.proofs.Added.{◌⨾◌, adds_is}
use Rattle.fap_listing.proofs.module.add_entries.Goals as goal

pub returns-in-len1-up : goal.returns-in-len1-up
returns-in-len1-up g c = adds_is (entries_of c.args.entries.now c.in-len1-up.len_at_least) (c.end_line.ensures ⨾ c.line.ensures ⨾ c.add_entry_lines.ensures)
