use Rattle.std.proofs.Common.{◌≡◌, map, take}
use Rattle.faults.specs.Faults.{WhereTold}
use Rattle.file_tracks.specs.Stored.{files_on}
use Rattle.file_tracks.specs.Tracked.{KeepsTracks}
use Rattle.file_tracks.specs.declared.table.TrackTable.{TrackTable}
use Rattle.track_directories.proofs.listing.lists_on.Given as goal

abbrev pub invariant-listing : goal.invariant-listing
invariant-listing g l = record {
  files : WhereTold (g.F.Medium.contents l.fn.store.disk.now) (λ contents. l.lists.items ≡ map (λ (t : TrackTable). files_on contents t.files.items) (take l.table-index l.tables));
  keeps : KeepsTracks g.F.Medium ⊥ l.fn.store l.store;
  contents : g.F.Medium.contents l.store.disk.now ≡ g.F.Medium.contents l.fn.store.disk.now;
}
