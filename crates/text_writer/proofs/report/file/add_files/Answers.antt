use Rattle.text_model.specs.Report.{file_text}
use Rattle.text_writer.proofs.Added.{adds_none, adds_more, adds_all}
use Rattle.text_writer.proofs.report.file.add_files.Goals as goal

pub loop-file-init : goal.loop-file-init
loop-file-init g c = adds_none g.K.Sink c.args.out.now

pub loop-file-preserved : goal.loop-file-preserved
loop-file-preserved g c =
    adds_more g.K.Sink (file_text c.args.dump) c.args.files.now c.loop-file.file-index c.file-item.result _ _ _
    c.loop-file-test.true c.file-item.is c.loop-file.invariant c.add_file.ensures

pub returns : goal.returns
returns g c = adds_all g.K.Sink (file_text c.args.dump) c.args.files.now c.loop-file.file-index _ _ c.loop-file-test.false c.loop-file.invariant
