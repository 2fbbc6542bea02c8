use Rattle.std.proofs.Common.{◌≡◌, ◌≤◌, ℕ, take}
use Rattle.track_directories.specs.Directories.{KeepsUsers}
use Rattle.file_map.specs.Known.{known}
use Rattle.file_model.specs.Owned.{files_of}
use Rattle.track_directories.specs.Tables.{shown, Sound}
use Rattle.track_directories.proofs.all.TrackDirectories.add_files.Given as goal

abbrev pub invariant-adding : goal.invariant-adding
invariant-adding g l = record {
  sound : Sound g.F.Medium l.self;
  same : l.self.store.disk.ghost_name ≡ l.fn.self.store.disk.ghost_name;
  users : KeepsUsers (shown g.F.Medium l.fn.self) (shown g.F.Medium l.self);
  own : (u : ℕ) → 1 ≤ u → (shown g.F.Medium l.self).own u ≡ known (shown g.F.Medium l.fn.self).tells (files_of u (take l.file-index l.files));
  common : (shown g.F.Medium l.self).common ≡ (shown g.F.Medium l.fn.self).common;
  tells : (shown g.F.Medium l.self).tells ≡ (shown g.F.Medium l.fn.self).tells;
  faults : (shown g.F.Medium l.fn.self).faults ≤ (shown g.F.Medium l.self).faults;
}
