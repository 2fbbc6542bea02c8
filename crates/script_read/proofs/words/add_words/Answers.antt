use Rattle.std.proofs.Common.{sym, ap, ◌∙◌}
use Rattle.text_model.specs.Fields.{octal_in}
use Rattle.script_read.proofs.CardWords.{field_more, fields_read, fields_refused, card_is, card_of, answered_some, answered_none}
use Rattle.script_read.proofs.words.add_words.Goals as goal

pub returns-in_default : goal.returns-in_default
returns-in_default c =
    answered_none c.args.words.now (card_of 5 c.args.text.now)
    (card_is c.args.words.now c.args.text.now 5 (sym c.if-is_over.ensures)
    ∙ fields_refused octal_in c.words.words c.words.rest.now _ c.words.left c.words.invariant (sym c.words-test.ensures)
    (ap octal_in (sym c.first_word.ensures.word) ∙ sym c.octal.ensures ∙ c.in_default.is))

pub words-preserved : goal.words-preserved
words-preserved c =
    rw (c.in_ok-push.ensures.ok, c.first_word.ensures.behind)
    (field_more octal_in c.words.left c.words.words c.words.rest.now c.in-Some.word c.if-left-eq0.false (sym c.words-test.ensures)
    (ap octal_in (sym c.first_word.ensures.word) ∙ sym c.octal.ensures ∙ c.in-Some.is)
    ∙ c.words.invariant)

pub returns : goal.returns
returns c =
    answered_some c.args.words.now c.words.words (card_of 5 c.args.text.now)
    (card_is c.args.words.now c.args.text.now 5 (sym c.if-is_over.ensures)
    ∙ fields_read octal_in c.words.words c.words.rest.now _ c.words.left c.words.invariant (sym c.words-test.ensures))
