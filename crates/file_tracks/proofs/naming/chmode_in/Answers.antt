use Rattle.std.specs.Prelude.{Ok}
use Rattle.std.specs.List.{IsDistinct}
use Rattle.std.proofs.Common.{◌≡◌, ◌≢◌, ◌≤◌, ℕ, List, get_or, refl, sym, ◌∙◌, ap, subst, arith}
use Rattle.std.proofs.lemmas.List.{get_or_default}
use Rattle.ctss_types.specs.Names.{NamePair}
use Rattle.ctss_types.specs.declared.file.FileBody.{FileBody}
use Rattle.file_model.specs.Files.{same_name}
use Rattle.file_tracks.specs.Stored.{body_on, files_on}
use Rattle.file_tracks.specs.declared.table.Filed.{Filed}
use Rattle.file_tracks.proofs.Tables.{names_set}
use Rattle.file_tracks.proofs.Retold.{same_places, still_works, retold_file, moded_done}
use Rattle.file_tracks.proofs.naming.chmode_in.Goals as goal

pub returns-clause-left : goal.returns-clause-left
returns-clause-left c = λ contents.
    let fs = c.args.table.now.files.items in
    let at = c.in-Some.at in
    let f0 = c.index-file.result.now in
    let f = c.index_mut-file.result.now in
    let is = c.index_mut-file.ensures.value in
    let mode = c.args.mode in
    let g : Filed = record { name = f.name; mode = mode; words = f.words; tracks = f.tracks } in
    let low = c.in-Some.ensures.0 in
    let found = c.in-Some.ensures.1 contents f in
    let same : (get_or fs at f).mode ≡ f0.mode = ap (λ (x : Filed). x.mode) (sym (c.index-file.ensures ∙ get_or_default fs at f0 f low)) in
    let other : (get_or fs at f).mode ≢ 3 = subst (λ (m : ℕ). m ≢ 3) (sym same) c.if-file-eq3.false in
    let small : mode ≤ 3 = omega arith in
    moded_done c.args.name mode (files_on contents fs) (body_on contents (get_or fs at f)) found other small
    ∙ ap Ok (sym (retold_file contents fs at f g c.args.name (λ (x : FileBody). record x { mode = mode }) low is c.requires found refl))

pub returns-clause-retells : goal.returns-clause-retells
returns-clause-retells c =
    let fs = c.args.table.now.files.items in
    let at = c.in-Some.at in
    let f = c.index_mut-file.result.now in
    let is = c.index_mut-file.ensures.value in
    let g : Filed = record { name = f.name; mode = c.args.mode; words = f.words; tracks = f.tracks } in
    let low = c.in-Some.ensures.0 in
    let small : c.args.mode ≤ 3 = omega arith in
    record {
      usable = λ contents taken h.
          still_works fs at f g low is refl refl contents taken c.args.table.now.quota c.args.table.now.used h small
          (subst (λ (ns : List NamePair). IsDistinct same_name ns) (sym (names_set fs at g f low (ap (λ (x : Filed). x.name) is))) c.requires);
      places = same_places fs at f g low is refl refl;
      quota = refl;
      used = refl;
    }
