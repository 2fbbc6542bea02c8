use Rattle.std.specs.Prelude.{Ok}
use Rattle.std.proofs.Common.{◌≡◌, ◌<◌, length, get_or, ◌∙◌, sym, ap, arith}
use Rattle.std.proofs.lemmas.List.{get_or-map, length-map}
use Rattle.file_model.specs.Files.{is_named}
use Rattle.file_tracks.specs.Stored.{body_on, files_on}
use Rattle.file_tracks.specs.declared.table.Filed.{Filed}
use Rattle.file_tracks.proofs.Found.{is_found}
use Rattle.file_tracks.proofs.Tables.{names_differ}
use Rattle.file_tracks.proofs.Removes.{files-remove, map-remove, deleted_is}
use Rattle.file_tracks.proofs.deleting.delete_in.Goals as goal

pub returns-clause-left : goal.returns-clause-left
returns-clause-left g c = λ contents.
    let fs = c.args.table.now.files.items in
    let at = c.in-Some.at in
    let f = c.index-file.result.now in
    let name = c.args.name in
    let low = c.in-Some.ensures.0 in
    let found = c.in-Some.ensures.1 contents f in
    let named = is_found name (files_on contents fs) _ found in
    let place : get_or (files_on contents fs) at (body_on contents f) ≡ body_on contents (get_or fs at f) = get_or-map (body_on contents) fs at f (body_on contents f) low in
    let inside : at < length (files_on contents fs) = (let l = length-map fs (body_on contents) in omega (arith, l, low)) in
    let mode = ap (λ (x : Filed). x.mode) c.index-file.ensures in
    let free = c.if-file-ge2.false in
    deleted_is name (files_on contents fs) (body_on contents (get_or fs at f)) found (omega (arith, mode, free))
    ∙ ap Ok (files-remove name (files_on contents fs) at (body_on contents f) inside (names_differ contents fs c.requires.usable.differ) (ap (is_named name) place ∙ named) ∙ sym (map-remove contents fs at) ∙ ap (files_on contents) (sym c.remove_at.ensures.items))
