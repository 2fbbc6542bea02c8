use Rattle.std.proofs.Common.{◌<◌, ◌≤◌, length, sym, ◌∙◌, subst, arith}
use Rattle.console_texts.specs.Parts.{Kept}
use Rattle.console_texts.specs.Following.{followed}
use Rattle.console_texts.proofs.Rows.{row_more, row_at, rest_more}
use Rattle.console_texts.proofs.texts.ConsoleTexts.follow.Goals as goal

pub follow-requires : goal.follow-requires
follow-requires c =
    let was : Kept = c.index_mut.result.now in
    let within : c.rows.i < length c.args.self.now = (let e = c.rows.invariant.end in let t = c.rows-test.true in omega (arith, e, t)) in
    record { room = subst (λ (k : Kept). 4 ≤ k.room) (sym (c.index_mut.ensures.value ∙ row_at c.args.self.now c.rows.self-inside.rows.items c.rows.i was c.rows.invariant.rest)) (c.requires.room c.rows.i was within) }

pub rows-preserved : goal.rows-preserved
rows-preserved c =
    record {
      shown = row_more (followed c.args.consoles.now c.args.refused c.args.before.now c.args.after.now) c.args.self.now c.rows.self-inside.rows.items c.rows.i c.index_mut.result.now c.follow.new.self
          (let e = c.rows.invariant.end in let t = c.rows-test.true in omega (arith, e, t)) c.rows.invariant.shown c.index_mut.ensures.value c.follow.ensures.shown;
      rest = rest_more c.args.self.now c.rows.self-inside.rows.items c.rows.i c.follow.new.self c.rows.invariant.rest;
      end = c.rows.invariant.end;
    }
