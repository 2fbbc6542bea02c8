use Rattle.std.proofs.Common.{◌≡◌, ◌<◌, ◌∙◌, length, arith}
use Rattle.cmd_program.proofs.Filling.{fill_more}
use Rattle.cmd_program.proofs.lines.fill_words.Goals as goal

pub loop-word-preserved : goal.loop-word-preserved
loop-word-preserved c =
    let below : c.loop-word.word-index < length c.args.words.now = omega arith in
    let size : length c.loop-word.words ≡ length c.args.words.now = omega arith in
    fill_more c.loop-word.words c.loop-word.rest.now c.split_at.result.0.now c.split_at.result.1.now c.name_word.result c.loop-word.word-index
    (length c.args.words.now) c.min.result below size c.min.ensures c.split_at.ensures.front c.split_at.ensures.back c.name_word.ensures
    ∙ c.loop-word.invariant
