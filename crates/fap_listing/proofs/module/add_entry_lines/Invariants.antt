use Rattle.std.proofs.Common.{take}
use Rattle.std.specs.List.{flat_map}
use Rattle.fap_listing.specs.ModuleListing.{entry_line}
use Rattle.text_writer.specs.Writing.{Adds}
use Rattle.fap_listing.proofs.module.add_entry_lines.Given as goal

abbrev pub invariant-loop-entry : goal.invariant-loop-entry
invariant-loop-entry g l = Adds g.K.Sink (flat_map entry_line (take l.entry-index l.entries)) l.fn.out l.out
