use Rattle.std.proofs.Common.{ℕ, ◌-◌, ◌^◌, min, List, length, sym, ap, ◌∙◌, arith}
use Rattle.console_texts.proofs.Bytes.{text_found}
use Rattle.console_texts.proofs.texts.ConsoleTexts.out_len.Goals as goal

pub returns-in-Some : goal.returns-in-Some
returns-in-Some g c =
    c.text_len.ensures ∙ ap (λ (xs : List ℕ). min (length xs) (2 ^ 64 - 1))
    (sym (text_found (g.T.Transcripts.all c.args.transcripts.now) c.args.self.now c.deref.result.now c.args.console c.number.result c.in-Some.row.now (c.deref.ensures.value ∙ c.self.view_is) c.number.ensures.value (let r = c.number.ensures.range in grind (arith, r)) c.in-Some.ensures.lookup.0 c.in-Some.ensures.lookup.1))
