use Rattle.std.proofs.Common.{◌≡◌, Option, Some, None, Bor, sym, ap, ◌∙◌, subst, MatchOption}
use Rattle.std.specs.Option.{option_map, option_copied}
use Rattle.ctss_types.specs.Names.{NamePair}
use Rattle.ctss_types.specs.declared.file.FileBody.{FileBody}
use Rattle.file_model.specs.Files.{file_named}
use Rattle.file_map.specs.Table.{body_of}
use Rattle.file_map.specs.declared.table.StoredFile.{StoredFile}
use Rattle.file_map.specs.Directory.{NamesDiffer}
use Rattle.file_map.proofs.Entries.{names_differ, found}
use Rattle.file_map.proofs.table.FileTable.get.Goals as goal

told : (name : NamePair) (file : Option FileBody) (r : Option (Bor StoredFile)) → file ≡ option_map (λ v. body_of (name, v)) (option_copied r)
    → MatchOption r (file ≡ None) (λ f. file ≡ Some (body_of (name, f.now)))
told name file None h = h
told name file (Some f) h = h

pub returns-clause-file : goal.returns-clause-file
returns-clause-file c =
    let name = c.args.name in
    told name (file_named name c.args.self.now) c.get.result
    (ap (file_named name) (sym c.self.view_is) ∙ found name _ ∙ ap (option_map (λ v. body_of (name, v))) (sym c.get.ensures.value))

pub returns-clause-differ : goal.returns-clause-differ
returns-clause-differ c = subst NamesDiffer c.self.view_is (names_differ _ c.len-len.ensures.unique)
