use Rattle.std.proofs.Common.{List}
use Rattle.ctss_types.specs.declared.file.FileBody.{FileBody}
use Rattle.file_map.specs.Answers.{Answers}
use Rattle.file_tracks.proofs.Known.{with_seen}
use Rattle.file_tracks.proofs.After.{one_of}
use Rattle.file_model.specs.Files.{stat}
use Rattle.file_tracks.proofs.port.TrackPortFilePort.stat.Goals as goal

pub stat_in-requires : goal.stat_in-requires
stat_in-requires g c = record { sound = one_of (g.F.Medium.contents c.args.self.now.store.now.disk.now) c.args.self.now.store.now.tracks.taken.items c.args.self.now.table.now c.requires.usable.directory }

pub returns-clause-answer : goal.returns-clause-answer
returns-clause-answer g c =
    let p = c.args.self.now in
    let o = g.F.Medium.contents p.store.now.disk.now in
    let taken = p.store.now.tracks.taken.items in
    let d = p.table.now in
    let fs = d.files.items in
    let w = c.requires.usable in
    with_seen (λ (xs : List FileBody). Answers c.stat_in.result (stat c.args.name xs)) o taken d.quota d.used fs w.directory c.stat_in.ensures.answer
