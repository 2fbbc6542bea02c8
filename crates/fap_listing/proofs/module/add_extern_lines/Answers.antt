use Rattle.fap_listing.specs.ModuleListing.{extern_line}
use Rattle.text_writer.proofs.Added.{adds_none, adds_more, adds_all}
use Rattle.fap_listing.proofs.module.add_extern_lines.Goals as goal

pub loop-name-init : goal.loop-name-init
loop-name-init g c = adds_none g.K.Sink c.args.out.now

pub loop-name-preserved : goal.loop-name-preserved
loop-name-preserved g c =
    adds_more g.K.Sink extern_line c.args.names.now c.loop-name.name-index c.name-item.result _ _ _ c.loop-name-test.true c.name-item.is
    c.loop-name.invariant c.add_extern.ensures

pub returns : goal.returns
returns g c = adds_all g.K.Sink extern_line c.args.names.now c.loop-name.name-index _ _ c.loop-name-test.false c.loop-name.invariant
