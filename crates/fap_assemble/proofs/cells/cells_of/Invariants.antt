use Rattle.std.proofs.Common.{◌≡◌, ◌+◌, ◌≤◌, ◌++◌, [], take, drop}
use Rattle.link_model.specs.Moves.{nothing_moved}
use Rattle.link_model.specs.ModuleCards.{cells_from, module_faults_from}
use Rattle.fap_assemble.specs.Steps.{texts}
use Rattle.fap_assemble.specs.Judging.{relocated_in}
use Rattle.fap_assemble.specs.ModuleFollows.{Stands, moved_by_cards}
use Rattle.fap_assemble.proofs.cells.cells_of.Given as goal

abbrev pub invariant-loop-card : goal.invariant-loop-card
invariant-loop-card l = record {
  rest : l.places ++ cells_from (relocated_in l.r) (moved_by_cards l.r.externs (texts (take l.card-index l.cards))) (texts (drop l.card-index l.cards))
      ≡ cells_from (relocated_in l.r) nothing_moved (texts l.cards);
  sound : module_faults_from (relocated_in l.r) (l.card-index + 1) (moved_by_cards l.r.externs (texts (take l.card-index l.cards))) (texts (take l.card-index l.cards))
      (texts (drop l.card-index l.cards)) ≡ [];
  stands : Stands l.r l.spot (moved_by_cards l.r.externs (texts (take l.card-index l.cards))) (texts (drop l.card-index l.cards));
  place : l.spot.place ≤ 65535 + l.card-index;
  visible : l.spot.visible ≤ l.card-index;
  weighed : l.spot.weighed ≤ l.card-index;
}
