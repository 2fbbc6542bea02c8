use Rattle.std.proofs.Common.{◌+◌, ◌≤◌, [], drop, length}
use Rattle.fap_model.specs.Places.{known_after, nothing_known}
use Rattle.fap_model.specs.Decks.{literals_with, reach_from}
use Rattle.fap_assemble.specs.Steps.{texts}
use Rattle.fap_assemble.specs.Passes.{Comes}
use Rattle.fap_assemble.proofs.tables.tables_of.Given as goal

abbrev pub invariant-loop-card : goal.invariant-loop-card
invariant-loop-card l = record {
  rest : Comes l.tables (texts (drop l.card-index l.cards)) (known_after nothing_known (texts l.cards)) (literals_with [] (texts l.cards)) (reach_from 0 nothing_known (texts l.cards));
  few : length l.tables.literals ≤ l.card-index;
  place : l.tables.place ≤ 65535 + l.card-index;
  reach : l.tables.reach ≤ 65535 + l.card-index;
}
