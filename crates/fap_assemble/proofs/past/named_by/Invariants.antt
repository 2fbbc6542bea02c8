use Rattle.std.proofs.Common.{◌≡◌, ◌≤◌, ◌++◌, drop, length}
use Rattle.link_model.specs.ModuleCards.{named_by}
use Rattle.fap_assemble.specs.Steps.{texts}
use Rattle.fap_assemble.proofs.past.named_by.Given as goal

abbrev pub invariant-loop-card : goal.invariant-loop-card
invariant-loop-card l = record {
  rest : l.names ++ named_by l.operation (texts (drop l.card-index l.cards)) ≡ named_by l.operation (texts l.cards);
  few : length l.names ≤ l.card-index;
}
