use Rattle.std.proofs.Common.{[]}
use Rattle.text_writer.proofs.Added.{adds_both}
use Rattle.text_writer.proofs.writer.TextWriter.add.Goals as goal

pub returns-then-text-room : goal.returns-then-text-room
returns-then-text-room g c = adds_both g.K.Sink [] c.args.text.now _ _ _ c.flush.ensures.added c.pass.ensures
