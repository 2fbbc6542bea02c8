use Rattle.std.proofs.Common.{rules, ℕ, Option, Some, ap, ◌∙◌}
use Rattle.fap_assemble.specs.Names.{externs_in, names_in}
use Rattle.fap_assemble.proofs.FieldKinds.{address_some}
use Rattle.fap_assemble.proofs.kind.address_kind.Goals as goal

pub returns-in_ok-heft_of : goal.returns-in_ok-heft_of
returns-in_ok-heft_of c =
    ap (λ (k : Option ℕ). Some k) c.heft_kind.ensures
    ∙ address_some (externs_in c.args.weights) (names_in c.args.weights) c.args.text.now c.in_ok-heft_of.field-0 (search rules) c.in_ok-heft_of.ensures.value
