use Rattle.std.proofs.Common.{List}
use Rattle.ctss_types.specs.declared.file.FileBody.{FileBody}
use Rattle.ctss_types.specs.declared.file.Refusal.TheVariants.{NoFile}
use Rattle.file_model.specs.Files.{written, if_they_fit, with_new}
use Rattle.file_tracks.specs.Stored.{files_on}
use Rattle.file_tracks.specs.Tracked.{tracked}
use Rattle.file_tracks.proofs.Refusals.{written_new, written_none}
use Rattle.file_tracks.proofs.Leaves.{writes_told, writes_refused}
use Rattle.file_tracks.proofs.writing.write_in.Goals as goal

pub returns-then-place-eq0-clause-writes : goal.returns-then-place-eq0-clause-writes
returns-then-place-eq0-clause-writes g c =
    let d = c.args.table.now in
    writes_told c.make.result (λ (files : List FileBody). if_they_fit d.quota (with_new c.args.name c.args.words.now files)) (written c.args.name c.args.place c.args.words.now d.quota)
    (λ contents whole. written_new c.args.name c.args.words.now d.quota (files_on contents d.files.items) (c.in_default.ensures contents) c.args.place c.if-place-eq0.true) c.make.ensures.writes

pub returns-in_default-clause-writes : goal.returns-in_default-clause-writes
returns-in_default-clause-writes g c =
    let d = c.args.table.now in
    writes_refused (written c.args.name c.args.place c.args.words.now d.quota) (tracked g.F.Medium c.args.store.now) d c.requires.ready NoFile
    (λ contents whole. written_none c.args.name c.args.words.now d.quota (files_on contents d.files.items) (c.in_default.ensures contents) c.args.place c.if-place-eq0.false)
