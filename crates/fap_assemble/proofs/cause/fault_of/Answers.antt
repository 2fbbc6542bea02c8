use Rattle.std.proofs.Common.{ap, ◌∙◌}
use Rattle.fap_model.specs.declared.types.FaultCause.{FaultCause}
use Rattle.fap_model.specs.Causes.{fault_number}
use Rattle.fap_model.proofs.Listings.{cause_is_fault}
use Rattle.std.specs.Prelude.{Option}
use Rattle.fap_assemble.specs.Fields.{known_at}
use Rattle.fap_assemble.specs.Wholes.{whole_in}
use Rattle.fap_assemble.proofs.cause.fault_of.Goals as goal

pub returns : goal.returns
returns c =
    c.fault_number.ensures
    ∙ ap (λ (x : Option FaultCause). fault_number x) c.in_ok-cause.ensures
    ∙ cause_is_fault (whole_in c.args.whole.now) (known_at c.args.whole.now.symbols c.args.visible c.args.place) c.args.text.now
