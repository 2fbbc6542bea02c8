use Rattle.std.proofs.Common.{◌++◌, map}
use Rattle.picture_model.specs.Cores.{load_ticks, owner_in}
use Rattle.run_picture.proofs.Notes.{noted_next, noted_all}
use Rattle.run_picture.proofs.core_maps.note.note_loads.Goals as goal

pub loop-entry-preserved : goal.loop-entry-preserved
loop-entry-preserved c =
    noted_next (λ tick. owner_in c.args.owners.now)
    (map owner_in c.args.maps.now ++ map (λ tick. owner_in c.args.owners.now) (load_ticks c.args.entries.now))
    (map owner_in c.loop-entry.maps) (map owner_in c.note_load.new.maps) c.args.entries.now c.loop-entry.entry-index c.entry-item.result
    c.loop-entry-test.true c.entry-item.is c.in_ok-note_load.ensures c.loop-entry.invariant

pub returns : goal.returns
returns c =
    noted_all (λ tick. owner_in c.args.owners.now)
    (map owner_in c.args.maps.now ++ map (λ tick. owner_in c.args.owners.now) (load_ticks c.args.entries.now))
    (map owner_in c.loop-entry.maps) c.args.entries.now c.loop-entry.entry-index c.loop-entry-test.false c.loop-entry.invariant
