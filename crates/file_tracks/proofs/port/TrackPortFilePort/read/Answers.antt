use Rattle.std.specs.Prelude.{Option}
use Rattle.std.proofs.Common.{ℕ, List, sym, ap, rules}
use Rattle.file_model.specs.Files.{read}
use Rattle.file_tracks.specs.Seen.{tells_of, files_seen}
use Rattle.file_tracks.proofs.Known.{answers_over}
use Rattle.file_tracks.proofs.Calls.{reads_usable, reads_goes}
use Rattle.file_tracks.proofs.port.TrackPortFilePort.read.Goals as goal

pub returns-clause-answer : goal.returns-clause-answer
returns-clause-answer g c =
    let p = c.args.self.now in
    answers_over (g.F.Medium.contents p.store.now.disk.now) p.table.now.files.items c.requires.usable.directory.tracked c.read_in-answer.result (read c.args.name c.args.place c.args.count) c.read_in-answer.ensures.any

pub returns-clause-stays : goal.returns-clause-stays
returns-clause-stays g c =
    let e = c.read_in-answer.ensures in
    record {
      left = λ well. ap (λ (o : Option (List (List ℕ))). files_seen o c.args.self.now.table.now.files.items) (e.contents well);
      telling = λ well. ap tells_of (e.contents well);
      usable = reads_usable g.F.Medium c.args.self.now.store.now c.read_in-answer.new.store _ _ _ c.requires.usable c.read_in-answer.result e.keeps e.contents c.is_disk-self.ensures.yes;
    }

pub returns-clause-keeps : goal.returns-clause-keeps
returns-clause-keeps g c =
    let e = c.read_in-answer.ensures in (
      search rules,
      search rules,
      sym e.keeps.same,
      reads_goes g.F.Medium c.args.self.now.store.now c.read_in-answer.new.store _ _ _ c.requires.usable c.read_in-answer.result e.keeps e.contents c.is_disk-self.ensures.no,
    )
