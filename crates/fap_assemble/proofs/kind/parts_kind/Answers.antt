use Rattle.std.proofs.Common.{arith, ◌∙◌}
use Rattle.std.proofs.lemmas.Bool.Decides.{nat_tests}
use Rattle.fap_model.specs.Terms.{items_of}
use Rattle.fap_assemble.specs.Names.{externs_in, names_in}
use Rattle.fap_assemble.proofs.FieldKinds.{joined_fields}
use Rattle.fap_assemble.proofs.kind.parts_kind.Goals as goal

pub returns : goal.returns
returns c =
    c.joined_kind.ensures
    ∙ joined_fields (externs_in c.args.weights) (names_in c.args.weights) c.args.op c.args.most (items_of c.args.field.now) c.address_kind.result c.light_text.result c.light_text-2.result
    c.item_at.result.now c.item_at-2.result.now c.item_at-3.result.now (grind (arith, nat_tests, c.item_count.ensures, c.from.ensures))
    c.item_at.ensures c.item_at-2.ensures c.item_at-3.ensures c.address_kind.ensures c.light_text.ensures c.light_text-2.ensures
