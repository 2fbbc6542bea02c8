use Rattle.std.proofs.Common.{◌≡◌, ℕ, List, ap, ◌∙◌, map, take, arith}
use Rattle.ctss_types.specs.declared.file.FileBody.{FileBody}
use Rattle.std.proofs.lemmas.List.{take_all}
use Rattle.file_tracks.specs.Stored.{files_on}
use Rattle.file_tracks.specs.declared.table.TrackTable.{TrackTable}
use Rattle.file_tracks.proofs.Told.{told_map}
use Rattle.track_directories.proofs.listing.lists_on.Goals as goal

pub returns-clause-files : goal.returns-clause-files
returns-clause-files g c =
    let shows : List (List ℕ) → List TrackTable → List (List FileBody) = λ contents. map (λ (t : TrackTable). files_on contents t.files.items) in
    told_map (g.F.Medium.contents c.args.store.now.disk.now)
    (λ contents. c.listing.lists.items ≡ shows contents (take c.listing.table-index c.args.tables.now)) (λ contents. c.listing.lists.items ≡ shows contents c.args.tables.now)
    (λ contents is. is ∙ ap (shows contents) (take_all c.listing.table-index c.args.tables.now (omega (arith, c.listing-test.false))))
    c.listing.invariant.files
