use Rattle.std.proofs.Common.{rules, ◌≡◌, is_some, true≢false, sym, ap, ◌∙◌}
use Rattle.file_map.specs.Table.{files_of}
use Rattle.file_map.proofs.Entries.{none_changed}
use Rattle.file_map.proofs.Renaming.{absent_after, put_back}
use Rattle.file_map.proofs.table.FileTable.rename.Goals as goal

pub shift_insert-requires-clause-below_len : goal.shift_insert-requires-clause-below_len
shift_insert-requires-clause-below_len c = λ h.
    let none = absent_after c.args.name c.args.to c.self.inside.by_name.entries _ _ _ c.self.view_is c.requires c.in_ok-reserve.ensures.entries c.in-Some.ensures.entries in
    absurd (true≢false (sym h ∙ ap is_some none))

pub returns-in-Some-clause-ok : goal.returns-in-Some-clause-ok
returns-in-Some-clause-ok c =
    let is : c.match-unwrap.self ≡ files_of c.shift_insert.new.self.entries = search rules in
    let r = c.in-Some.ensures in
    let es = c.self.inside.by_name.entries in
    let same = c.in_ok-reserve.ensures.entries in
    let none = absent_after c.args.name c.args.to es _ _ _ c.self.view_is c.requires same r.entries in
    is ∙ put_back c.args.name c.args.to c.in-Some.file es _ _ _ _ _ c.self.view_is same c.in_ok-reserve.ensures.unique r.value r.index r.entries none
    (rw c.unwrap.ensures at c.shift_insert.ensures.entries)

pub returns-in_default-clause-ok : goal.returns-in_default-clause-ok
returns-in_default-clause-ok c =
    let r = c.in_default.ensures in
    ap files_of r.unchanged ∙ none_changed c.args.name _ _ _ (ap files_of c.in_ok-reserve.ensures.entries ∙ c.self.view_is) r.value
