use Rattle.std.proofs.Common.{List, filter, not, ap, ◌∙◌}
use Rattle.ctss_types.specs.declared.file.FileBody.{FileBody}
use Rattle.file_model.specs.Files.{is_named}
use Rattle.file_map.specs.Table.{files_of}
use Rattle.file_map.proofs.Entries.{removed}
use Rattle.file_map.proofs.table.FileTable.remove.Goals as goal

pub returns : goal.returns
returns c =
    ap files_of c.shift_remove.ensures.entries
    ∙ removed c.args.name c.self.inside.by_name.entries c.len-len.ensures.unique
    ∙ ap (λ (fs : List FileBody). filter (λ f. not (is_named c.args.name f)) fs) c.self.view_is
