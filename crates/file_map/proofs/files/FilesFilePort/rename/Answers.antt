use Rattle.std.proofs.Common.{rules, ◌≡◌, None, Ok, refl, subst}
use Rattle.ctss_types.specs.declared.file.FileBody.{FileBody}
use Rattle.file_model.specs.Files.{renamed, file_named}
use Rattle.file_map.specs.Directory.{Directory}
use Rattle.file_map.specs.Table.{body_of}
use Rattle.file_map.proofs.Counts.{counted_kept}
use Rattle.file_map.proofs.Modes.{modes_changed}
use Rattle.file_map.proofs.Operations.{renamed_same, renamed_done}
use Rattle.file_map.proofs.files.FilesFilePort.rename.Goals as goal

pub returns-then-eq-clause-left : goal.returns-then-eq-clause-left
returns-then-eq-clause-left c =
    let name = c.args.name in
    subst (λ (d : Directory). renamed name c.args.to d.files ≡ Ok d.files) c.self.view_is
    (renamed_same name c.args.to _ (body_of (name, c.in-Some.file.now)) c.in-Some.ensures.file c.if-is_read_only.ensures c.if-eq.ensures)

pub invariant_of-self-2 : goal.invariant_of-self-2
invariant_of-self-2 c =
    let change : FileBody → FileBody = λ g. record g { name = c.args.to } in
    record {
      counted = counted_kept c.args.name _ _ _ c.self.invariant.counted change _ (λ g. refl) c.in_ok-rename.ensures.ok;
      modes = modes_changed c.args.name _ _ c.self.invariant.modes change (λ f h. h) c.in_ok-rename.ensures.ok;
    }

pub returns-clause-left : goal.returns-clause-left
returns-clause-left c =
    let name = c.args.name in
    let none : file_named c.args.to c.self.inside.table ≡ None = search rules in
    subst (λ (d : Directory). renamed name c.args.to d.files ≡ Ok c.rename.new.self) c.self.view_is
    (renamed_done name c.args.to _ (body_of (name, c.in-Some.file.now)) c.in-Some.ensures.file c.if-is_read_only.ensures _ none c.in_ok-rename.ensures.ok)
