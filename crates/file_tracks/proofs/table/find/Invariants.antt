use Rattle.std.proofs.Common.{◌≡◌, ℕ, List, drop}
use Rattle.file_model.specs.Files.{file_named}
use Rattle.file_tracks.specs.Stored.{files_on}
use Rattle.file_tracks.proofs.table.find.Given as goal

abbrev pub invariant-finding : goal.invariant-finding
invariant-finding l = (contents : List (List ℕ)) → file_named l.name (files_on contents (drop l.at l.files)) ≡ file_named l.name (files_on contents l.files)
