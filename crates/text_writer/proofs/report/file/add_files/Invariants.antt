use Rattle.std.proofs.Common.{take}
use Rattle.std.specs.List.{flat_map}
use Rattle.text_model.specs.Report.{file_text}
use Rattle.text_writer.specs.Writing.{Adds}
use Rattle.text_writer.proofs.report.file.add_files.Given as goal

abbrev pub invariant-loop-file : goal.invariant-loop-file
invariant-loop-file g l = Adds g.K.Sink (flat_map (file_text l.dump) (take l.file-index l.files)) l.fn.out l.out
