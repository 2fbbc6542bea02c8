use Rattle.std.proofs.Common.{◌≡◌, ◌+◌, ◌++◌, length}
use Rattle.std.specs.List.{flat_map}
use Rattle.std.specs.Option.{option_map, option_map_or}
use Rattle.fap_model.specs.Listed.{used_in}
use Rattle.fap_model.specs.Terms.{items_of}
use Rattle.fap_read.specs.Peeled.{items_behind}
use Rattle.fap_assemble.proofs.mention.note_items.Given as goal

abbrev pub invariant-items : goal.invariant-items
invariant-items l =
    l.mentions ++ flat_map (used_in l.card) (items_behind (option_map (λ rest. rest.now) l.next)) ≡ l.fn.mentions ++ flat_map (used_in l.card) (items_of l.field)

abbrev pub decreases-items : goal.decreases-items
decreases-items l = option_map_or (λ rest. 1 + length rest.now) l.next 0
