use Rattle.std.proofs.Common.{refl, ap, ◌∙◌}
use Rattle.ctss_types.specs.declared.file.FileBody.{FileBody}
use Rattle.file_map.specs.Table.{files_of}
use Rattle.file_map.specs.declared.table.FileTable.TheInside.{Inside}
use Rattle.file_map.proofs.Entries.{written_through, none_changed}
use Rattle.file_map.proofs.table.FileTable.set_words.Goals as goal
use Rattle.file_map.proofs.table.FileTable.set_words.Goals.{in-Some, in_default}

pub returns : goal.returns
returns c =
    let change : FileBody → FileBody = λ f. record f { words = c.args.words.items } in
    let es = c.self.inside.by_name.entries in
    elim c.match-get_mut.branch [
      | in-Some w ↦
          let file = w.in-Some.file.now in
          ap (λ (i : Inside). files_of i.by_name.entries) w.self-inside-is
          ∙ written_through c.args.name change file (record { mode = file.mode; words = c.args.words }) refl es _ _ c.self.view_is
          w.in-Some.ensures.unique w.in-Some.ensures.value (c.get_mut.follows.holds _).0
      | in_default w ↦
          ap (λ (i : Inside). files_of i.by_name.entries) w.self-inside-is
          ∙ ap (λ m. files_of m.entries) c.get_mut.follows.holds-at-none
          ∙ none_changed c.args.name change es _ c.self.view_is w.in_default.ensures.value
    ]
