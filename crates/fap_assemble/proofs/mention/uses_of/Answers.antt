use Rattle.std.proofs.Common.{arith, ◌+◌, ◌++◌, Option, ap, ◌∙◌}
use Rattle.fap_model.specs.Listed.{used_by, used_on}
use Rattle.fap_model.specs.declared.types.Operation.{Operation}
use Rattle.fap_assemble.proofs.Mentions.{card_noted}
use Rattle.fap_assemble.proofs.mention.uses_of.Goals as goal

pub loop-card-preserved : goal.loop-card-preserved
loop-card-preserved c = record {
  rest = card_noted used_on c.args.cards.now c.loop-card.card-index c.card-item.result c.as_slice-text.result.now c.loop-card.number (c.loop-card.number + 1)
      c.loop-card.mentions c.note_field.new.mentions _ c.loop-card-test.true c.card-item.is c.as_slice-text.ensures c.loop-card.invariant.rest
      (c.in_ok-note_field.ensures
      ∙ ap (λ (o : Option Operation). c.loop-card.mentions ++ used_by c.loop-card.number o c.as_slice-text.result.now) c.operation_in.ensures)
      (omega arith);
  number = omega (arith, c.loop-card.invariant.number);
}
