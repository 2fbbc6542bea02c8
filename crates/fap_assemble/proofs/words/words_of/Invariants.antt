use Rattle.std.proofs.Common.{◌≡◌, ◌+◌, ◌≤◌, [], ◌∷◌, drop}
use Rattle.fap_model.specs.Places.{nothing_known}
use Rattle.fap_model.specs.Decks.{faults_from}
use Rattle.fap_assemble.specs.Fields.{known_at}
use Rattle.fap_assemble.specs.Runs.{cards_in}
use Rattle.fap_assemble.specs.Steps.{texts}
use Rattle.fap_assemble.specs.Wholes.{whole_in}
use Rattle.fap_assemble.specs.Follows.{Follows}
use Rattle.fap_assemble.proofs.words.words_of.Given as goal

abbrev pub invariant-loop-card : goal.invariant-loop-card
invariant-loop-card l = record {
  rest : cards_in (whole_in l.whole) l.segments (known_at l.whole.symbols l.visible l.place) (texts (drop l.card-index l.cards))
      ≡ cards_in (whole_in l.whole) (record { done = l.fn.head ∷ []; first = 0; run = [] }) nothing_known (texts l.cards);
  sound : faults_from (whole_in l.whole) (l.card-index + 1) (known_at l.whole.symbols l.visible l.place) (texts (drop l.card-index l.cards)) ≡ [];
  follows : Follows l.whole.symbols l.visible l.place (texts (drop l.card-index l.cards));
  place : l.place ≤ 65535 + l.card-index;
  visible : l.visible ≤ l.card-index;
}
