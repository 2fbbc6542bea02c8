use Rattle.std.proofs.Common.{◌≡◌, ◌++◌, drop, map}
use Rattle.picture_model.specs.Cores.{load_ticks, owner_in}
use Rattle.run_picture.proofs.core_maps.note.note_loads.Given as goal

-- the loads so far were noted, and with those that are left they are all
abbrev pub invariant-loop-entry : goal.invariant-loop-entry
invariant-loop-entry l =
    map owner_in l.maps ++ map (λ tick. owner_in l.owners) (load_ticks (drop l.entry-index l.entries))
    ≡ map owner_in l.fn.maps ++ map (λ tick. owner_in l.owners) (load_ticks l.entries)
