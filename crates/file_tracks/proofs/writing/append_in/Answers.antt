use Rattle.std.proofs.Common.{List, get_or, sym, ◌∙◌, ap}
use Rattle.std.proofs.lemmas.List.Elements.{All-get_or}
use Rattle.ctss_types.specs.declared.file.FileBody.{FileBody}
use Rattle.file_model.specs.Files.{appended, written, if_they_fit, with_new}
use Rattle.file_tracks.specs.Stored.{body_on, files_on, HasTracks, IsWhole}
use Rattle.file_tracks.specs.declared.table.Filed.{Filed}
use Rattle.file_tracks.proofs.Tables.{content-length}
use Rattle.file_tracks.proofs.Refusals.{appended_new, appended_is}
use Rattle.file_tracks.proofs.Leaves.{writes_told}
use Rattle.file_tracks.proofs.writing.append_in.Goals as goal

pub returns-in_default-clause-writes : goal.returns-in_default-clause-writes
returns-in_default-clause-writes g c =
    let d = c.args.table.now in
    writes_told c.make.result (λ (files : List FileBody). if_they_fit d.quota (with_new c.args.name c.args.words.now files)) (appended c.args.name c.args.words.now d.quota)
    (λ contents whole. appended_new c.args.name c.args.words.now d.quota (files_on contents d.files.items) (c.in_default.ensures contents)) c.make.ensures.writes

pub returns-clause-writes : goal.returns-clause-writes
returns-clause-writes g c =
    let d = c.args.table.now in
    let fs = d.files.items in
    let at = c.in-Some.at in
    let f = c.index.result.now in
    let low = c.in-Some.ensures.0 in
    writes_told c.write_at.result (written c.args.name f.words c.args.words.now d.quota) (appended c.args.name c.args.words.now d.quota)
    (λ contents whole.
    let len = content-length contents (get_or fs at f) (All-get_or HasTracks fs at f low c.requires.ready.directory.tracked) (All-get_or (IsWhole contents) fs at f low whole) in
    appended_is c.args.name c.args.words.now d.quota (files_on contents fs) (body_on contents (get_or fs at f)) (c.in-Some.ensures.1 contents f) f.words (ap (λ (x : Filed). x.words) c.index.ensures ∙ sym len))
    c.write_at.ensures.writes
