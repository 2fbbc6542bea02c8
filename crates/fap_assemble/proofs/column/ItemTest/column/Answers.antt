use Rattle.std.proofs.Common.{rules, arith, ◌+◌, ◌-◌, length, sym, ◌∙◌}
use Rattle.fap_assemble.specs.Columns.{passes}
use Rattle.fap_assemble.specs.Names.{names_in}
use Rattle.fap_assemble.proofs.Columns.{column_goes}
use Rattle.fap_assemble.proofs.column.ItemTest.column.Goals as goal

pub items-preserved : goal.items-preserved
items-preserved c = record {
  is = column_goes (passes c.args.self (names_in c.args.names)) c.items.index (c.items.index + 1) _ c.args.text.now c.items.items.now c.in-Some.rest.now _
      (omega (arith, c.items.invariant.within)) (search rules) (omega arith) c.items.invariant.is (search rules);
  within = search rules;
  few = c.items.invariant.few;
}

pub returns : goal.returns
returns c =
    sym (c.behind.ensures.stays c.in_default.is (16 + (length c.field-field.result.now - length c.items.items.now))) ∙ c.items.invariant.is
