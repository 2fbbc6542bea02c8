use Rattle.std.proofs.Common.{Bool, List, is_some, sym, subst}
use Rattle.ctss_types.specs.declared.file.OwnedFile.{OwnedFile}
use Rattle.file_tracks.specs.Seen.{tells_of}
use Rattle.track_directories.specs.Tables.{shown}
use Rattle.track_directories.specs.Firsts.{AreFirst, Adds}
use Rattle.live_run.specs.Starts.{HasFirstFiles}
use Rattle.live_run.proofs.Fits.{can_be_first}
use Rattle.live_run.proofs.Starts.{first_files, on_ok, told_is_some}
use Rattle.live_run.proofs.start.directories_of.Goals as goal

pub add_files-wrote-requires-clause-first : goal.add_files-wrote-requires-clause-first
add_files-wrote-requires-clause-first g c =
    let script = c.args.script.now in
    subst (λ (files : List OwnedFile). AreFirst files (shown g.F.Medium c.over-files.result)) (sym c.as_slice.ensures)
    (can_be_first script c.requires.lawful.range (tells_of (g.F.Medium.contents c.args.disk.now)) (g.F.Medium.faults c.args.disk.now) c.args.empty.quotas c.requires.empty.quotas (shown g.F.Medium c.over-files.result) c.over-files.ensures.none)

pub returns-clause-first : goal.returns-clause-first
returns-clause-first g c =
    let script = c.args.script.now in
    let contents = g.F.Medium.contents c.args.disk.now in
    let old = shown g.F.Medium c.over-files.result in
    let new = shown g.F.Medium c.add_files-wrote.new.self in
    let adds : Adds script.files c.add_files-wrote.result old new = subst (λ (files : List OwnedFile). Adds files c.add_files-wrote.result old new) c.as_slice.ensures c.add_files-wrote.ensures.adds in
    on_ok c.add_files-wrote.result (HasFirstFiles script.params.common script.accounts script.files (is_some contents) new)
    (λ is. subst (λ (told : Bool). HasFirstFiles script.params.common script.accounts script.files told new) (told_is_some contents)
    (first_files script.params.common script.accounts script.files (tells_of contents) (g.F.Medium.faults c.args.disk.now) c.args.empty.quotas c.requires.empty.quotas old c.over-files.ensures.none c.add_files-wrote.result new is adds))
