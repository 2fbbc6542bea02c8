use Rattle.std.proofs.Common.{rules}
use Rattle.fap_read.proofs.Packing.{word_done}
use Rattle.fap_read.proofs.words.packed_words.Goals as goal

pub words-preserved : goal.words-preserved
words-preserved c =
    word_done c.words.words c.push.new.self c.words.rest.now c.front.result.now c.behind-rest.result.now _ c.words.left c.name_word.result
    c.words-test.true c.front.ensures c.behind-rest.ensures c.name_word.ensures (search rules) c.words.invariant
