use Rattle.std.proofs.Common.{◌≡◌, ◌+◌, ◌++◌, length}
use Rattle.std.specs.Option.{option_map, option_map_or}
use Rattle.fap_read.specs.Peeled.{parts_from, parts_behind}
use Rattle.fap_assemble.specs.Mentions.{mentions_of}
use Rattle.fap_assemble.proofs.mention.note_item.Given as goal

abbrev pub invariant-terms : goal.invariant-terms
invariant-terms l =
    l.mentions ++ mentions_of l.card (parts_behind (option_map (λ p. (p.0, p.1.now)) l.next)) ≡ l.fn.mentions ++ mentions_of l.card (parts_from 43 l.item)

abbrev pub decreases-terms : goal.decreases-terms
decreases-terms l = option_map_or (λ p. 1 + length p.1.now) l.next 0
