use Rattle.std.proofs.Common.{ℕ, ◌-◌, ◌++◌, [], min, List, length, take, drop, sym, ap, ◌∙◌, arith}
use Rattle.console_texts.proofs.Bytes.{text_found, copied_none}
use Rattle.console_texts.proofs.texts.ConsoleTexts.out_since.Goals as goal

pub returns-in-Some-clause-count : goal.returns-in-Some-clause-count
returns-in-Some-clause-count g c =
    (c.put_text.ensures c.args.from [] c.args.into.now (copied_none c.args.from c.args.into.now)).at
    ∙ ap (λ (xs : List ℕ). min (length c.args.into.now) (length xs - c.args.from))
    (sym (text_found (g.T.Transcripts.all c.args.transcripts.now) c.args.self.now c.deref.result.now c.args.console c.number.result c.in-Some.row.now (c.deref.ensures.value ∙ c.self.view_is) c.number.ensures.value (let r = c.number.ensures.range in grind (arith, r)) c.in-Some.ensures.lookup.0 c.in-Some.ensures.lookup.1))

pub returns-in-Some-clause-bytes : goal.returns-in-Some-clause-bytes
returns-in-Some-clause-bytes g c =
    (c.put_text.ensures c.args.from [] c.args.into.now (copied_none c.args.from c.args.into.now)).bytes
    ∙ ap (λ (xs : List ℕ). take c.put_text.new.window.at (drop c.args.from xs) ++ drop c.put_text.new.window.at c.args.into.now)
    (sym (text_found (g.T.Transcripts.all c.args.transcripts.now) c.args.self.now c.deref.result.now c.args.console c.number.result c.in-Some.row.now (c.deref.ensures.value ∙ c.self.view_is) c.number.ensures.value (let r = c.number.ensures.range in grind (arith, r)) c.in-Some.ensures.lookup.0 c.in-Some.ensures.lookup.1))
