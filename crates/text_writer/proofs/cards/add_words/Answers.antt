use Rattle.text_model.specs.Canonical.{octal}
use Rattle.text_writer.proofs.Added.{adds_none, adds_more, adds_all}
use Rattle.text_writer.proofs.cards.add_words.Goals as goal

pub loop-word-init : goal.loop-word-init
loop-word-init g c = adds_none g.K.Sink c.args.out.now

pub loop-word-preserved : goal.loop-word-preserved
loop-word-preserved g c =
    adds_more g.K.Sink octal c.args.words.now c.loop-word.word-index c.word-item.result _ _ _
    c.loop-word-test.true c.word-item.is c.loop-word.invariant c.add_word.ensures

pub returns : goal.returns
returns g c = adds_all g.K.Sink octal c.args.words.now c.loop-word.word-index _ _ c.loop-word-test.false c.loop-word.invariant
