use Rattle.std.proofs.Common.{◌++◌, ◌∷◌, [], List, ap, ◌∙◌}
use Rattle.ctss_types.specs.declared.file.FileBody.{FileBody}
use Rattle.file_model.specs.Files.{file_named}
use Rattle.file_map.specs.Table.{body_of, files_of}
use Rattle.file_map.proofs.Entries.{added}
use Rattle.file_map.proofs.table.FileTable.add.Goals as goal

pub returns-clause-ok : goal.returns-clause-ok
returns-clause-ok c =
    ap files_of c.in_ok-insert.ensures.entries
    ∙ added c.args.name (record { mode = c.args.mode; words = c.args.words }) c.self.inside.by_name.entries (ap (file_named c.args.name) c.self.view_is ∙ c.requires)
    ∙ ap (λ (fs : List FileBody). fs ++ body_of (c.args.name, record { mode = c.args.mode; words = c.args.words }) ∷ []) c.self.view_is
