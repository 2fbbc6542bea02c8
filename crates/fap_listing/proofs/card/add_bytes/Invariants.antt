use Rattle.std.proofs.Common.{take}
use Rattle.std.specs.List.{flat_map}
use Rattle.fap_listing.specs.Rows.{shown_bytes}
use Rattle.text_writer.specs.Writing.{Adds}
use Rattle.fap_listing.proofs.card.add_bytes.Given as goal

abbrev pub invariant-loop-byte : goal.invariant-loop-byte
invariant-loop-byte g l = Adds g.K.Sink (flat_map (shown_bytes) (take l.byte-index l.text)) l.fn.out l.out
