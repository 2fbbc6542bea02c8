use Rattle.std.specs.Prelude.{Ok}
use Rattle.std.proofs.Common.{List}
use Rattle.ctss_types.specs.declared.file.FileBody.{FileBody}
use Rattle.file_map.specs.Answers.{Answers}
use Rattle.file_map.specs.Listing.{listing_of}
use Rattle.file_tracks.proofs.Known.{with_seen}
use Rattle.file_tracks.proofs.port.TrackPortFilePort.list.Goals as goal

pub returns-clause-answer : goal.returns-clause-answer
returns-clause-answer g c =
    let p = c.args.self.now in
    let o = g.F.Medium.contents p.store.now.disk.now in
    let taken = p.store.now.tracks.taken.items in
    let d = p.table.now in
    let fs = d.files.items in
    let w = c.requires.usable in
    with_seen (λ (xs : List FileBody). Answers c.list_in.result (Ok (listing_of xs))) o taken d.quota d.used fs w.directory c.list_in.ensures.answer
