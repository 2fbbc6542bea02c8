use Rattle.std.proofs.Common.{rules, ap, ◌∙◌, not, nat_eq}
use Rattle.indexmap.proofs.CallerLemmas.{filter-RetainsPairs}
use Rattle.file_model.specs.Files.{lasting}
use Rattle.file_map.specs.Table.{files_of}
use Rattle.file_map.proofs.Entries.{Entry, kept}
use Rattle.file_map.proofs.table.FileTable.drop_temporary.Goals as goal

pub returns : goal.returns
returns c =
    ap files_of (filter-RetainsPairs _ (λ (e : Entry). not (nat_eq e.1.mode 0)) _ (λ k v b w g call. search rules) _ _ c.retain.ensures.filtered)
    ∙ kept c.self.inside.by_name.entries
    ∙ ap lasting c.self.view_is
