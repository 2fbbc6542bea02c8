use Rattle.std.proofs.Common.{List}
use Rattle.ctss_types.specs.declared.file.FileBody.{FileBody}
use Rattle.file_model.specs.Files.{put, if_they_fit, with_new}
use Rattle.file_tracks.specs.Stored.{files_on}
use Rattle.file_tracks.proofs.Refusals.{put_new}
use Rattle.file_tracks.proofs.Leaves.{writes_told}
use Rattle.file_tracks.proofs.writing.put_in.Goals as goal

pub returns-in_default-clause-writes : goal.returns-in_default-clause-writes
returns-in_default-clause-writes g c =
    let d = c.args.table.now in
    writes_told c.make.result (λ (files : List FileBody). if_they_fit d.quota (with_new c.args.name c.args.words.now files)) (put c.args.name c.args.words.now d.quota)
    (λ contents whole. put_new c.args.name c.args.words.now d.quota (files_on contents d.files.items) (c.in_default.ensures contents)) c.make.ensures.writes
