use Rattle.std.proofs.Common.{List, ◌≡◌, ◌++◌, subst}
use Rattle.std.specs.Prelude.{OnOk}
use Rattle.link_model.specs.declared.types.ModulePlace.{ModulePlace}
use Rattle.fap_assemble.specs.Judging.{relocated_in, moved_at}
use Rattle.fap_assemble.proofs.CellWords.{cells_plain}
use Rattle.fap_assemble.proofs.cells.add_operation.Goals as goal

pub returns-in_default : goal.returns-in_default
returns-in_default c =
    subst (λ (ps : List ModulePlace). OnOk c.add_read.result (c.add_read.new.places ≡ c.args.places.now ++ ps))
    (cells_plain (relocated_in c.args.r.now) (moved_at c.args.r.now c.args.spot) c.args.op c.args.text.now c.in_default.not-Bss) c.add_read.ensures
