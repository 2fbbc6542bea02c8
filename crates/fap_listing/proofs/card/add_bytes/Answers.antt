use Rattle.fap_listing.specs.Rows.{shown_bytes}
use Rattle.text_writer.proofs.Added.{adds_none, adds_next, adds_all}
use Rattle.fap_listing.proofs.card.add_bytes.Goals as goal

pub loop-byte-init : goal.loop-byte-init
loop-byte-init g c = adds_none g.K.Sink c.args.out.now

pub loop-byte-preserved : goal.loop-byte-preserved
loop-byte-preserved g c =
    adds_next g.K.Sink shown_bytes c.args.text.now c.loop-byte.byte-index 0 _ _ _ c.loop-byte-test.true c.loop-byte.invariant c.add_byte.ensures

pub returns : goal.returns
returns g c = adds_all g.K.Sink shown_bytes c.args.text.now c.loop-byte.byte-index _ _ c.loop-byte-test.false c.loop-byte.invariant
