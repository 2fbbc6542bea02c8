use Rattle.std.proofs.Common.{◌≡◌, ◌≤◌, ◌<◌, ◌∷◌, map, take, length}
use Rattle.std.specs.List.{All}
use Rattle.ctss_types.specs.declared.script.Account.{Account}
use Rattle.file_tracks.specs.declared.table.TrackTable.{TrackTable}
use Rattle.track_directories.proofs.Bare.{IsBare}
use Rattle.track_directories.proofs.empty.EmptyDirectories.new.Given as goal

abbrev pub invariant-loop-account : goal.invariant-loop-account
invariant-loop-account l = record {
  bare : All IsBare l.tables.items;
  small : All (λ (t : TrackTable). t.quota < 65536) l.tables.items;
  some : 1 ≤ length l.tables.items;
  quotas : map (λ (t : TrackTable). t.quota) l.tables.items ≡ l.common ∷ map (λ (a : Account). a.tracks) (take l.account-index l.accounts);
}
