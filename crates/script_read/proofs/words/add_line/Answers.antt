use Rattle.std.proofs.Common.{◌∙◌, ◌++◌, ◌-◌, ℕ, List, ap}
use Rattle.program_model.specs.Lines.{words_of_line}
use Rattle.script_read.proofs.LineWords.{line_at, word_more}
use Rattle.script_read.proofs.words.add_line.Goals as goal

pub words-init : goal.words-init
words-init c = line_at 14 c.args.words.now c.as_slice-rest.result.now c.args.line.now c.as_slice-rest.ensures.value

pub words-preserved : goal.words-preserved
words-preserved c =
    ap (λ (words : List ℕ). words ++ words_of_line (c.words.left - 1) c.first_six.result.1.now) c.in_ok-push.ensures.ok
    ∙ word_more c.words.left c.words.words c.words.rest.now c.first_six.result.0.now c.first_six.result.1.now c.name_word.result c.words-test.true
    c.first_six.ensures.front c.first_six.ensures.behind c.name_word.ensures
    ∙ c.words.invariant
