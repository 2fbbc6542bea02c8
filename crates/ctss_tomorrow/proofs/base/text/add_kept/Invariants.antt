use Rattle.std.proofs.Common.{take}
use Rattle.std.specs.List.{flat_map}
use Rattle.text_writer.specs.Writing.{Adds}
use Rattle.ctss_tomorrow.specs.Files.{kept_text}
use Rattle.ctss_tomorrow.proofs.base.text.add_kept.Given as goal

abbrev pub invariant-loop-file : goal.invariant-loop-file
invariant-loop-file g l = Adds g.K.Sink (flat_map (kept_text l.owner) (take l.file-index l.files)) l.fn.out l.out
