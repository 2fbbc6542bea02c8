use Rattle.std.proofs.Common.{take}
use Rattle.std.specs.List.{flat_map}
use Rattle.fap_listing.specs.Listing.{symbol_line}
use Rattle.text_writer.specs.Writing.{Adds}
use Rattle.fap_listing.proofs.symbol.add_all.Given as goal

abbrev pub invariant-loop-symbol : goal.invariant-loop-symbol
invariant-loop-symbol g l = Adds g.K.Sink (flat_map (symbol_line l.definitions l.uses) (take l.symbol-index l.symbols)) l.fn.out l.out
