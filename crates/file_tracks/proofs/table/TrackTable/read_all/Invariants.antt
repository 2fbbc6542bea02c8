use Rattle.std.proofs.Common.{◌≡◌, take}
use Rattle.faults.specs.Faults.{WhereTold}
use Rattle.file_tracks.specs.Stored.{files_on}
use Rattle.file_tracks.specs.Tracked.{KeepsTracks}
use Rattle.file_tracks.proofs.table.TrackTable.read_all.Given as goal

abbrev pub invariant-reading : goal.invariant-reading
invariant-reading g l = record {
  files : WhereTold (g.F.Medium.contents l.fn.store.disk.now) (λ contents. l.files ≡ files_on contents (take l.file-index l.self.files.items));
  keeps : KeepsTracks g.F.Medium ⊥ l.fn.store l.store;
  contents : g.F.Medium.contents l.store.disk.now ≡ g.F.Medium.contents l.fn.store.disk.now;
}
