use Rattle.std.proofs.Common.{◌≡◌, length, sym, subst, arith}
use Rattle.medium.specs.Medium.{AreWords}
use Rattle.medium.specs.Rows.{words_from}
use Rattle.medium.proofs.Pieces.{words_are, words_from_are}
use Rattle.medium.proofs.pages.copy_out.Goals as goal

pub returns-clause-row : goal.returns-clause-row
returns-clause-row c =
    words_are c.copying.into c.args.words.now c.args.place (length c.args.into.now) c.copying.invariant.size
    (λ j low. c.copying.invariant.here j (omega (arith, low, c.copying.invariant.size, c.copying-test.false)))

pub returns-clause-words : goal.returns-clause-words
returns-clause-words c =
    let row : c.copying.into ≡ words_from c.args.words.now c.args.place (length c.args.into.now) =
    words_are c.copying.into c.args.words.now c.args.place (length c.args.into.now) c.copying.invariant.size
    (λ j low. c.copying.invariant.here j (omega (arith, low, c.copying.invariant.size, c.copying-test.false))) in
    subst AreWords (sym row) (words_from_are c.args.words.now c.requires.words c.args.place (length c.args.into.now))
