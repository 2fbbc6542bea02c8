use Rattle.std.proofs.Common.{Bool, Some, ap, ◌∙◌}
use Rattle.fap_model.specs.Terms.{expression}
use Rattle.fap_assemble.specs.Names.{externs_in, names_in}
use Rattle.fap_assemble.proofs.FieldKinds.{light_some}
use Rattle.fap_assemble.proofs.kind.light_text.Goals as goal

pub returns : goal.returns
returns c =
    ap (λ (b : Bool). Some b) c.is_light.ensures
    ∙ light_some (externs_in c.args.weights) (names_in c.args.weights) 0 (expression c.args.text.now) c.in_ok-heft_of.field-0 c.in_ok-heft_of.ensures.value
