use Rattle.std.proofs.Common.{◌≡◌, List, sym, ◌∙◌}
use Rattle.ctss_types.specs.declared.file.FileBody.{FileBody}
use Rattle.file_tracks.proofs.Tables.{tracks_are}
use Rattle.file_tracks.proofs.Known.{with_seen}
use Rattle.file_model.specs.Files.{tracks_of}
use Rattle.file_tracks.proofs.port.TrackPortFilePort.tracks.Goals as goal

pub returns-clause-count : goal.returns-clause-count
returns-clause-count g c =
    let p = c.args.self.now in
    let o = g.F.Medium.contents p.store.now.disk.now in
    let taken = p.store.now.tracks.taken.items in
    let d = p.table.now in
    let fs = d.files.items in
    let w = c.requires.usable in
    with_seen (λ (xs : List FileBody). d.used ≡ tracks_of xs) o taken d.quota d.used fs w.directory (λ contents whole. w.directory.counted ∙ sym (tracks_are contents fs w.directory.tracked whole))
