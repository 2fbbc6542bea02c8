use Rattle.std.proofs.Common.{refl, ap, ◌++◌, List, ℕ}
use Rattle.text_writer.proofs.Added.{written}
use Rattle.text_writer.proofs.writer.TextWriter.put.Goals as goal

pub returns-then-not-self : goal.returns-then-not-self
returns-then-not-self g c = record {
  same = refl;
  added = written c.args.text.now c.args.text.now _ _ c.write_all.result c.if-not-self.true (ap (λ (l : List ℕ). l ++ c.args.text.now) c.requires) c.requires
      c.is_err-self.ensures.value c.write_all.ensures.done c.write_all.ensures.short c.write_all.ensures.fault c.write_all.ensures.faults_grow;
}
