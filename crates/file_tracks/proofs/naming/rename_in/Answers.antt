use Rattle.std.specs.Prelude.{None, false, nat_le}
use Rattle.std.proofs.Common.{◌≡◌, ◌<◌, ℕ, List, [], set, get_or, refl, sym, ◌∙◌, subst, arith}
use Rattle.std.proofs.lemmas.Bool.Decides.{nat_tests}
use Rattle.std.proofs.lemmas.List.{get_or_default}
use Rattle.std.proofs.lemmas.List.Elements.{All-get_or}
use Rattle.ctss_types.specs.declared.file.FileBody.{FileBody}
use Rattle.file_model.specs.Files.{file_named}
use Rattle.file_map.proofs.Operations.{renamed_same, renamed_done}
use Rattle.file_tracks.specs.Stored.{body_on, files_on, HasMode}
use Rattle.file_tracks.specs.declared.table.Filed.{Filed}
use Rattle.file_tracks.proofs.Retold.{same_places, still_works, retold_file, renamed_differ, renamed_used, not_some}
use Rattle.file_tracks.proofs.naming.rename_in.Goals as goal

test : (m : ℕ) → m < 2 → false ≡ nat_le 2 m
test m k = grind (arith, nat_tests)

low_mode : (fs : List Filed) (at : ℕ) (f : Filed) → f ≡ get_or fs at f → f.mode < 2 → (get_or fs at f).mode < 2
low_mode fs at f is h = subst (λ (x : Filed). x.mode < 2) is h

pub returns-then-eq-clause-left : goal.returns-then-eq-clause-left
returns-then-eq-clause-left c = λ contents.
    let fs = c.args.table.now.files.items in
    let at = c.in-Some.at in
    let f = c.index-file.result.now in
    renamed_same c.args.name c.args.to (files_on contents fs) (body_on contents (get_or fs at f)) (c.in-Some.ensures.1 contents f) (test _ (low_mode fs at f c.index-file.ensures c.if-file-ge2.false)) c.if-eq.ensures

pub returns-then-has-clause-left : goal.returns-then-has-clause-left
returns-then-has-clause-left c = λ contents.
    let fs = c.args.table.now.files.items in
    let at = c.in-Some.at in
    let f = c.index-file.result.now in
    (renamed_used c.args.name c.args.to (files_on contents fs) (body_on contents (get_or fs at f)) (c.in-Some.ensures.1 contents f) (low_mode fs at f c.index-file.ensures c.if-file-ge2.false) (sym c.if-eq.ensures) (sym (c.if-has.ensures contents)), refl)

pub returns-clause-left : goal.returns-clause-left
returns-clause-left c = λ contents.
    let fs = c.args.table.now.files.items in
    let at = c.in-Some.at in
    let f0 = c.index-file.result.now in
    let f = c.index_mut-file.result.now in
    let is = c.index_mut-file.ensures.value in
    let to = c.args.to in
    let g : Filed = record { name = to; mode = f.mode; words = f.words; tracks = f.tracks } in
    let low = c.in-Some.ensures.0 in
    let found = c.in-Some.ensures.1 contents f in
    let same : f0 ≡ f = c.index-file.ensures ∙ get_or_default fs at f0 f low ∙ sym is in
    let free = test _ (low_mode fs at f is (subst (λ (x : Filed). x.mode < 2) same c.if-file-ge2.false)) in
    let none : file_named to (files_on contents fs) ≡ None = not_some _ (sym (c.if-has.ensures contents)) in
    renamed_done c.args.name to (files_on contents fs) (body_on contents (get_or fs at f)) found free (files_on contents (set fs at g)) none
    (retold_file contents fs at f g c.args.name (λ (x : FileBody). record x { name = to }) low is c.requires found refl)

pub returns-clause-retells : goal.returns-clause-retells
returns-clause-retells c =
    let fs = c.args.table.now.files.items in
    let at = c.in-Some.at in
    let f = c.index_mut-file.result.now in
    let is = c.index_mut-file.ensures.value in
    let g : Filed = record { name = c.args.to; mode = f.mode; words = f.words; tracks = f.tracks } in
    let low = c.in-Some.ensures.0 in
    record {
      usable = λ contents taken h.
          still_works fs at f g low is refl refl contents taken c.args.table.now.quota c.args.table.now.used h
          (subst HasMode (sym is) (All-get_or HasMode fs at f low h.modes)) (renamed_differ fs at g c.requires (not_some _ (sym (c.if-has.ensures []))));
      places = same_places fs at f g low is refl refl;
      quota = refl;
      used = refl;
    }
