use Rattle.fap_listing.specs.Listing.{symbol_line}
use Rattle.text_writer.proofs.Added.{adds_none, adds_more, adds_all}
use Rattle.fap_listing.proofs.symbol.add_all.Goals as goal

pub loop-symbol-init : goal.loop-symbol-init
loop-symbol-init g c = adds_none g.K.Sink c.args.out.now

pub loop-symbol-preserved : goal.loop-symbol-preserved
loop-symbol-preserved g c =
    adds_more g.K.Sink (symbol_line c.args.definitions.now c.args.uses.now) c.args.symbols.now c.loop-symbol.symbol-index c.symbol-item.result _ _ _ c.loop-symbol-test.true c.symbol-item.is
    c.loop-symbol.invariant c.add_symbol.ensures

pub returns : goal.returns
returns g c = adds_all g.K.Sink (symbol_line c.args.definitions.now c.args.uses.now) c.args.symbols.now c.loop-symbol.symbol-index _ _ c.loop-symbol-test.false c.loop-symbol.invariant
