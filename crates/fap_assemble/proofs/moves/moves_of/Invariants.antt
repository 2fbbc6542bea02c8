use Rattle.std.proofs.Common.{◌≡◌, ◌+◌, ◌≤◌, [], drop, length}
use Rattle.fap_model.specs.Decks.{literals_with}
use Rattle.link_model.specs.Moves.{nothing_moved, moved_after}
use Rattle.fap_assemble.specs.Steps.{texts}
use Rattle.fap_assemble.specs.Moving.{moves_in}
use Rattle.fap_assemble.proofs.moves.moves_of.Given as goal

abbrev pub invariant-loop-card : goal.invariant-loop-card
invariant-loop-card l = record {
  rest : moved_after l.externs (moves_in l.moves) (texts (drop l.card-index l.cards)) ≡ moved_after l.externs nothing_moved (texts l.cards);
  literals : literals_with l.moves.literals (texts (drop l.card-index l.cards)) ≡ literals_with [] (texts l.cards);
  place : l.moves.place ≤ 65535 + l.card-index;
  equs : length l.moves.equs ≤ l.card-index;
  few : length l.moves.literals ≤ l.card-index;
}
