use Rattle.std.proofs.Common.{◌≡◌, ◌+◌, ◌≤◌, ◌++◌, [], take, drop}
use Rattle.link_model.specs.Moves.{nothing_moved}
use Rattle.link_model.specs.Listed.{module_rows_from}
use Rattle.fap_assemble.specs.Steps.{texts}
use Rattle.fap_assemble.specs.Judging.{past_of, relocated_in}
use Rattle.fap_assemble.specs.ModuleFollows.{Stands, moved_by_cards}
use Rattle.fap_assemble.proofs.module_listing.rows_of.Given as goal

abbrev pub invariant-loop-card : goal.invariant-loop-card
invariant-loop-card l = record {
  rest : l.rows
      ++ module_rows_from (relocated_in l.r) (moved_by_cards l.r.externs (texts (take l.card-index l.cards))) (texts (take l.card-index l.cards)) (texts (drop l.card-index l.cards))
      ≡ module_rows_from (relocated_in l.r) nothing_moved [] (texts l.cards);
  past : l.past ≡ past_of (texts (take l.card-index l.cards));
  stands : Stands l.r l.spot (moved_by_cards l.r.externs (texts (take l.card-index l.cards))) (texts (drop l.card-index l.cards));
  place : l.spot.place ≤ 65535 + l.card-index;
  visible : l.spot.visible ≤ l.card-index;
  weighed : l.spot.weighed ≤ l.card-index;
}
