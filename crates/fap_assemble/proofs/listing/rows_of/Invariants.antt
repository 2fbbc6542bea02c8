use Rattle.std.proofs.Common.{◌≡◌, ◌+◌, ◌≤◌, ◌++◌, drop}
use Rattle.fap_model.specs.Listed.{rows_from}
use Rattle.fap_model.specs.Places.{nothing_known}
use Rattle.fap_assemble.specs.Fields.{known_at}
use Rattle.fap_assemble.specs.Follows.{Follows}
use Rattle.fap_assemble.specs.Steps.{texts}
use Rattle.fap_assemble.specs.Wholes.{whole_in}
use Rattle.fap_assemble.proofs.listing.rows_of.Given as goal

abbrev pub invariant-loop-card : goal.invariant-loop-card
invariant-loop-card l = record {
  rest : l.rows ++ rows_from (whole_in l.whole) (known_at l.whole.symbols l.visible l.place) (texts (drop l.card-index l.cards))
      ≡ rows_from (whole_in l.whole) nothing_known (texts l.cards);
  follows : Follows l.whole.symbols l.visible l.place (texts (drop l.card-index l.cards));
  place : l.place ≤ 65535 + l.card-index;
  visible : l.visible ≤ l.card-index;
}
