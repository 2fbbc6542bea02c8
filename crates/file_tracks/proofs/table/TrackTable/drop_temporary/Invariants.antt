use Rattle.std.specs.Prelude.{filter, take, drop}
use Rattle.std.proofs.Common.{◌≡◌, ◌-◌, ◌++◌, length}
use Rattle.file_tracks.specs.Tracked.{tracked, Frees}
use Rattle.file_tracks.proofs.Drops.{lasts}
use Rattle.file_tracks.proofs.table.TrackTable.drop_temporary.Given as goal

abbrev pub invariant-dropping : goal.invariant-dropping
invariant-dropping g l = record {
  items : l.self.files.items ≡ take (length l.fn.self.files.items - l.k) l.fn.self.files.items ++ filter lasts (drop (length l.fn.self.files.items - l.k) l.fn.self.files.items);
  frees : Frees (tracked g.F.Medium l.fn.store) (tracked g.F.Medium l.store) l.fn.self l.self;
  same : l.store.disk.ghost_name ≡ l.fn.store.disk.ghost_name;
  now : l.store.disk.now ≡ l.fn.store.disk.now;
}
