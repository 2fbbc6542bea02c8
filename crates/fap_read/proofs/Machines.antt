-- The operation of a name.
use Rattle.std.proofs.Common.{◌≡◌, ℕ, true, ◌-◌, ◌≤◌, List, ◌++◌, length, replicate, Option, Some, None, nat_le, arith, sym, ap, ◌∙◌}
use Rattle.std.proofs.lemmas.Bool.Decides.{nat_tests}
use Rattle.std.specs.Option.{option_map}
use Rattle.opcode_table.specs.Table.{op_with_name}
use Rattle.opcode_table.specs.declared.op.Op.{Op}
use Rattle.fap_model.specs.declared.types.Operation.TheVariants.{Machine}
use Rattle.fap_model.specs.Statements.{machine_named}

machine_is : (text name : List ℕ) (o : Option Op) → length text ≤ 6 → name ≡ text ++ replicate (6 - length text) 32 → op_with_name name ≡ o →
    machine_named text ≡ option_map (λ o. Machine o) o
machine_is text name o h e f =
    let short : nat_le (length text) 6 ≡ true = grind (arith, nat_tests) in
    rw short (ap (λ (l : List ℕ). option_map (λ o. Machine o) (op_with_name l)) (sym e) ∙ ap (option_map (λ o. Machine o)) f)

pub machine_some : (text name : List ℕ) (op : Op) → length text ≤ 6 → name ≡ text ++ replicate (6 - length text) 32 → op_with_name name ≡ Some op →
    Some (Machine op) ≡ machine_named text
machine_some text name op h e f = sym (machine_is text name (Some op) h e f)

pub machine_none : (text name : List ℕ) → length text ≤ 6 → name ≡ text ++ replicate (6 - length text) 32 → op_with_name name ≡ None → None ≡ machine_named text
machine_none text name h e f = sym (machine_is text name None h e f)
