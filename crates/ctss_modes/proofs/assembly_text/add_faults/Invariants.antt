use Rattle.std.proofs.Common.{take}
use Rattle.std.specs.List.{flat_map}
use Rattle.text_writer.specs.Writing.{Adds}
use Rattle.ctss_modes.specs.Faults.{line_of_fault}
use Rattle.ctss_modes.proofs.assembly_text.add_faults.Given as goal

abbrev pub invariant-loop-fault : goal.invariant-loop-fault
invariant-loop-fault g l = Adds g.K.Sink (flat_map line_of_fault (take l.fault-index l.faults)) l.fn.out l.out
