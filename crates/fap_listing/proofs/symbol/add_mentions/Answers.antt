use Rattle.fap_listing.specs.Listing.{mention_number}
use Rattle.text_writer.proofs.Added.{adds_none, adds_more, adds_all}
use Rattle.fap_listing.proofs.symbol.add_mentions.Goals as goal

pub loop-mention-init : goal.loop-mention-init
loop-mention-init g c = adds_none g.K.Sink c.args.out.now

pub loop-mention-preserved : goal.loop-mention-preserved
loop-mention-preserved g c =
    adds_more g.K.Sink (mention_number c.args.name) c.args.mentions.now c.loop-mention.mention-index c.mention-item.result _ _ _ c.loop-mention-test.true c.mention-item.is
    c.loop-mention.invariant c.add_mention.ensures

pub returns : goal.returns
returns g c = adds_all g.K.Sink (mention_number c.args.name) c.args.mentions.now c.loop-mention.mention-index _ _ c.loop-mention-test.false c.loop-mention.invariant
