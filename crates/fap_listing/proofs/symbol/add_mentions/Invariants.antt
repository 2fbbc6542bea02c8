use Rattle.std.proofs.Common.{take}
use Rattle.std.specs.List.{flat_map}
use Rattle.fap_listing.specs.Listing.{mention_number}
use Rattle.text_writer.specs.Writing.{Adds}
use Rattle.fap_listing.proofs.symbol.add_mentions.Given as goal

abbrev pub invariant-loop-mention : goal.invariant-loop-mention
invariant-loop-mention g l = Adds g.K.Sink (flat_map (mention_number l.name) (take l.mention-index l.mentions)) l.fn.out l.out
