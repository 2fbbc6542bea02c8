use Rattle.std.proofs.Common.{ap, ◌∙◌}
use Rattle.ctss_types.specs.declared.file.FileBody.{FileBody}
use Rattle.file_model.specs.Files.{overwritten}
use Rattle.file_map.specs.Table.{body_of, files_of}
use Rattle.file_map.specs.declared.table.StoredFile.{StoredFile}
use Rattle.file_map.specs.declared.table.FileTable.TheInside.{Inside}
use Rattle.file_map.proofs.Entries.{found_in, written_through, rewritten, none_changed}
use Rattle.file_map.proofs.Results.{on_ok, on_err}
use Rattle.file_map.proofs.table.FileTable.overwrite.Goals as goal
use Rattle.file_map.proofs.table.FileTable.overwrite.Goals.{in-Some, in-None}

pub overwrite-requires : goal.overwrite-requires
overwrite-requires c =
    c.requires (body_of (c.args.name, c.in-Some.file.now)) (found_in c.args.name c.self.inside.by_name.entries _ _ c.self.view_is c.in-Some.ensures.value)

pub returns-clause-ok : goal.returns-clause-ok
returns-clause-ok c =
    let change : FileBody → FileBody = λ f. record f { words = overwritten c.args.place c.args.words.now f.words } in
    let name = c.args.name in
    let es = c.self.inside.by_name.entries in
    elim c.match-get_mut.branch [
      | in-Some w ↦
          let file = w.in-Some.file.now in
          let now : StoredFile = record { mode = file.mode; words = w.overwrite.new.old } in
          rw w.result-is (on_ok w.overwrite.result (λ h.
          ap (λ (i : Inside). files_of i.by_name.entries) w.self-inside-is
          ∙ written_through name change file now (ap (λ ws. record { name = name; mode = file.mode; words = ws }) h) es _ _ c.self.view_is
          w.in-Some.ensures.unique w.in-Some.ensures.value (c.get_mut.follows.holds _).0) w.overwrite.ensures.ok)
      | in-None w ↦ rw w.result-is
          (ap (λ (i : Inside). files_of i.by_name.entries) w.self-inside-is
          ∙ ap (λ m. files_of m.entries) c.get_mut.follows.holds-at-none
          ∙ none_changed name change es _ c.self.view_is w.in-None.ensures.value)
    ]

pub returns-clause-err : goal.returns-clause-err
returns-clause-err c =
    let name = c.args.name in
    let es = c.self.inside.by_name.entries in
    elim c.match-get_mut.branch [
      | in-Some w ↦
          let file = w.in-Some.file.now in
          let now : StoredFile = record { mode = file.mode; words = w.overwrite.new.old } in
          rw w.result-is (on_err w.overwrite.result (λ h.
          ap (λ (i : Inside). files_of i.by_name.entries) w.self-inside-is
          ∙ rewritten name es _ _ file now (ap (λ ws. record { name = name; mode = file.mode; words = ws }) h) c.self.view_is
          w.in-Some.ensures.unique w.in-Some.ensures.value (c.get_mut.follows.holds _).0) w.overwrite.ensures.err)
      | in-None w ↦ rw w.result-is tt
    ]
