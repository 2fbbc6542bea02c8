use Rattle.std.proofs.Common.{◌≡◌, ◌+◌, ◌++◌, drop}
use Rattle.fap_model.specs.Listed.{defined_on, mentions_from}
use Rattle.fap_assemble.specs.Steps.{texts}
use Rattle.fap_assemble.proofs.mention.definitions_of.Given as goal

abbrev pub invariant-loop-card : goal.invariant-loop-card
invariant-loop-card l = record {
  rest : l.mentions ++ mentions_from defined_on l.number (texts (drop l.card-index l.cards)) ≡ mentions_from defined_on 1 (texts l.cards);
  number : l.number ≡ l.card-index + 1;
}
