use Rattle.std.proofs.Common.{◌≡◌, subst}
use Rattle.std.specs.Prelude.{IfOk, Option}
use Rattle.fap_model.specs.declared.types.FaultCause.{FaultCause}
use Rattle.fap_assemble.specs.Wholes.{whole_in}
use Rattle.fap_assemble.proofs.Causes.{card_cause_is}
use Rattle.fap_assemble.proofs.cause.cause_by.Goals as goal

pub returns-in_default : goal.returns-in_default
returns-in_default c =
    subst (λ (n : Option FaultCause). IfOk c.card_cause.result (λ x. x ≡ n))
    (card_cause_is (whole_in c.args.whole.now) c.args.visible c.args.place c.args.op c.args.text.now c.in_default.not-End) c.card_cause.ensures
