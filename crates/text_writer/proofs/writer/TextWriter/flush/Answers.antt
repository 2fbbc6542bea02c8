use Rattle.std.proofs.Common.{refl, sym, [], ◌∙◌, append-nil}
use Rattle.text_writer.proofs.Added.{written}
use Rattle.text_writer.proofs.writer.TextWriter.flush.Goals as goal

pub returns-clause-added : goal.returns-clause-added
returns-clause-added g c = record {
  same = refl;
  added = written [] c.deref.result.now _ _ c.write_all.result c.if-self.false (append-nil _ ∙ sym c.deref.ensures.value) c.clear-2.ensures
      c.is_err-self.ensures.value c.write_all.ensures.done c.write_all.ensures.short c.write_all.ensures.fault c.write_all.ensures.faults_grow;
}
