use Rattle.std.proofs.Common.{refl, sym}
use Rattle.script_read.proofs.Tracks.{too_many}
use Rattle.script_read.proofs.files.tracks_of.Goals as goal

pub returns-then-not-fits : goal.returns-then-not-fits
returns-then-not-fits c =
    let over =
    too_many c.args.owner c.args.quota c.loop-file.tracks c.len-words.result c.args.files.now c.loop-file.file-index c.file-item.result c.loop-file-test.true c.file-item.is
    (sym c.if-eq.ensures) c.loop-file.invariant.counted c.len-words.ensures (sym c.if-not-fits.ensures) in
    rw over refl
