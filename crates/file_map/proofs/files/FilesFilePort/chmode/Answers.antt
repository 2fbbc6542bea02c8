use Rattle.std.proofs.Common.{◌≤◌, refl, arith}
use Rattle.ctss_types.specs.declared.file.FileBody.{FileBody}
use Rattle.file_map.proofs.Counts.{counted_kept}
use Rattle.file_map.proofs.Modes.{modes_changed}
use Rattle.file_map.proofs.files.FilesFilePort.chmode.Goals as goal

pub invariant_of-self : goal.invariant_of-self
invariant_of-self c =
    let change : FileBody → FileBody = λ f. record f { mode = c.args.mode } in
    let low : c.args.mode ≤ 3 = omega arith in
    record {
      counted = counted_kept c.args.name _ _ _ c.self.invariant.counted change _ (λ f. refl) c.set_mode.ensures;
      modes = modes_changed c.args.name _ _ c.self.invariant.modes change (λ f h. low) c.set_mode.ensures;
    }
