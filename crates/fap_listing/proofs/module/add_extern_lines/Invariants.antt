use Rattle.std.proofs.Common.{take}
use Rattle.std.specs.List.{flat_map}
use Rattle.fap_listing.specs.ModuleListing.{extern_line}
use Rattle.text_writer.specs.Writing.{Adds}
use Rattle.fap_listing.proofs.module.add_extern_lines.Given as goal

abbrev pub invariant-loop-name : goal.invariant-loop-name
invariant-loop-name g l = Adds g.K.Sink (flat_map extern_line (take l.name-index l.names)) l.fn.out l.out
