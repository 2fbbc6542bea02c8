use Rattle.std.proofs.Common.{◌+◌, ◌++◌, [], drop, refl}
use Rattle.fap_listing.specs.Words.{word_line, word_lines}
use Rattle.text_writer.proofs.Added.{◌⨾◌, adds_is, adds_none}
use Rattle.fap_listing.proofs.Rows.{one_more, none_left, words_next, words_none}
use Rattle.fap_listing.proofs.word.add_word_lines.Goals as goal

pub loop-word-init : goal.loop-word-init
loop-word-init g c = ([], adds_none g.K.Sink c.args.out.now, refl)

pub loop-word-preserved : goal.loop-word-preserved
loop-word-preserved g c =
    let l = c.loop-word in
    let ws = c.args.words.now in (
      l.invariant.0 ++ word_line c.args.split l.place c.word-item.result,
      l.invariant.1 ⨾ c.add_word_line.ensures,
      one_more l.invariant.0 (word_line c.args.split l.place c.word-item.result) (word_lines c.args.split c.next_place-place.result (drop (l.word-index + 1) ws))
          (word_lines c.args.split l.place (drop l.word-index ws)) (word_lines c.args.split c.args.place ws)
          (words_next c.args.split l.place c.next_place-place.result ws l.word-index c.word-item.result c.loop-word-test.true c.word-item.is c.next_place-place.ensures)
          l.invariant.2,
    )

pub returns : goal.returns
returns g c =
    let l = c.loop-word in
    adds_is
    (none_left l.invariant.0 (word_lines c.args.split l.place (drop l.word-index c.args.words.now)) (word_lines c.args.split c.args.place c.args.words.now)
    (words_none c.args.split l.place c.args.words.now l.word-index c.loop-word-test.false) l.invariant.2)
    l.invariant.1
