-- proof: what the passes behind the first one keep over a module's cards.
use Rattle.std.specs.Prelude.{◌≡◌, ℕ, ◌+◌, List, [], length, codes}
use Rattle.fap_model.specs.Decks.{literals_with, blocks_for}
use Rattle.link_model.specs.Weights.{with_externs}
use Rattle.link_model.specs.ModuleCards.{Relocated, named_by}
use Rattle.fap_assemble.specs.declared.moves.Moves.{Moves}
use Rattle.fap_assemble.specs.Judging.{relocated_in}
use Rattle.link_model.specs.Moves.{Moved, nothing_moved, moved_after}
use Rattle.fap_assemble.specs.declared.relocated.Relocated.{Relocated as Held}
use Rattle.fap_assemble.specs.declared.relocated.Spot.{Spot}

-- a card's place, and how much is known before it
pub record IsSpot (s : Spot) (m : Moved) : Type 0 where
  pub place : s.place ≡ m.known.place
  pub visible : s.visible ≡ length m.known.symbols
  pub weighed : s.weighed ≡ length m.weights

-- and with the cards that are left come all symbols and weights
pub record Stands (r : Held) (s : Spot) (m : Moved) (rest : List (List ℕ)) : Type 0 where
  pub spot : IsSpot s m
  pub symbols : (moved_after r.externs m rest).known.symbols ≡ r.whole.symbols
  pub weights : (moved_after r.externs m rest).weights ≡ r.weights

-- what cards tell that come to this
abbrev pub relocated_from : Moves → List ℕ → Relocated
relocated_from t externs = record {
  whole = record {
    names = with_externs externs t.symbols;
    literals = t.literals;
    end_place = t.place;
    blocks = blocks_for (t.place + length t.literals);
  };
  weights = with_externs externs t.weights;
  equs = t.equs;
  externs = externs;
}

-- what cards tell, of those that are read
abbrev pub told_by : List (List ℕ) → Relocated
told_by read =
    let externs = named_by (codes "EXTERN") read in
    let all = moved_after externs nothing_moved read in
    let literals = literals_with [] read in
    record {
      whole =
          record {
            names = with_externs externs all.known.symbols;
            literals = literals;
            end_place = all.known.place;
            blocks = blocks_for (all.known.place + length literals);
          };
      weights = with_externs externs all.weights;
      equs = all.equs;
      externs = externs;
    }

pub record TellsAll (r : Held) (read : List (List ℕ)) : Type 0 where
  pub told : relocated_in r ≡ told_by read
  pub symbols : (moved_after r.externs nothing_moved read).known.symbols ≡ r.whole.symbols
  pub weights : (moved_after r.externs nothing_moved read).weights ≡ r.weights

-- what is known behind cards
abbrev pub moved_by_cards : List ℕ → List (List ℕ) → Moved
moved_by_cards externs cards = moved_after externs nothing_moved cards
