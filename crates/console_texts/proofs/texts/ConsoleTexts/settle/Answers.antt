use Rattle.std.proofs.Common.{rules, arith}
use Rattle.console_texts.specs.Following.{settled_in}
use Rattle.console_texts.proofs.Rows.{row_more}
use Rattle.console_texts.proofs.texts.ConsoleTexts.settle.Goals as goal

pub rows-preserved : goal.rows-preserved
rows-preserved c =
    record {
      shown = row_more (settled_in c.args.consoles.now c.args.after.now) c.args.self.now c.rows.self-inside.rows.items c.rows.i c.index_mut.result.now c.settle.new.self
          (let e = c.rows.invariant.end in let t = c.rows-test.true in omega (arith, e, t)) c.rows.invariant.shown c.index_mut.ensures.value c.settle.ensures.shown;
      end = search rules;
    }
