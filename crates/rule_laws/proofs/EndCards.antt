-- The END card, and the cards before it.
use Rattle.std.proofs.Common.{◌≡◌, ℕ, ◌*◌, ◌<◌, ◌≤◌, Bool, true, false, ◌||◌, if◌then◌else◌, List, [], ◌∷◌, ◌++◌, Option, Some, None, refl, sym, ap, ◌∙◌, arith, leb-false}
use Rattle.std.proofs.lemmas.Bool.{false≢true}
use Rattle.fap_model.specs.declared.types.Operation.TheVariants.{End as end}
use Rattle.fap_model.specs.Statements.{Field, placed, half, nothing, value, words, field_for}
use Rattle.fap_model.specs.Places.{Known, value_of, or_zero, known_behind, known_after}
use Rattle.fap_model.specs.Decks.{Whole, operation_in, is_end, cards_read, has_end, cards_before_end, is_outside, start_is_outside, start_in, start_from}

pub record Ended (cards : List (List ℕ)) : Type 0 where
  pub last : List ℕ
  pub last_is : is_end (operation_in last) ≡ true
  pub read : cards_read cards ≡ cards_before_end cards ++ last ∷ []
  pub start : (whole : Whole) (k : Known)
      → start_from whole k cards ≡ start_in whole (known_after k (cards_before_end cards)) (field_for end last)

-- the first card is END
ended_here : (card : List ℕ) (cards : List (List ℕ)) → is_end (operation_in card) ≡ true → Ended (card ∷ cards)
ended_here card cards is =
    record {
      last = card;
      last_is = is;
      read = ap (λ (b : Bool). if b then card ∷ [] else card ∷ cards_read cards) is
          ∙ sym (ap (λ (b : Bool). (if b then [] else card ∷ cards_before_end cards) ++ card ∷ []) is);
      start =
          λ whole k.
          ap (λ (b : Bool). if b then start_in whole k (field_for end card) else start_from whole
          (known_behind k card) cards) is
          ∙ sym (ap (λ (b : Bool). start_in whole (known_after k (if b then [] else card ∷ cards_before_end cards))
          (field_for end card)) is);
    }

-- it comes later
ended_later : (card : List ℕ) (cards : List (List ℕ)) → is_end (operation_in card) ≡ false → Ended cards
    → Ended (card ∷ cards)
ended_later card cards not_yet e =
    record {
      last = e.last;
      last_is = e.last_is;
      read =
          ap (λ (b : Bool). if b then card ∷ [] else card ∷ cards_read cards) not_yet
          ∙ ap (λ (l : List (List ℕ)). card ∷ l) e.read
          ∙ sym (ap (λ (b : Bool). (if b then [] else card ∷ cards_before_end cards) ++ e.last ∷ []) not_yet);
      start =
          λ whole k.
          ap (λ (b : Bool). if b then start_in whole k (field_for end card) else start_from whole
          (known_behind k card) cards) not_yet
          ∙ e.start whole (known_behind k card)
          ∙ sym (ap (λ (b : Bool). start_in whole (known_after k (if b then [] else card ∷ cards_before_end cards))
          (field_for end e.last)) not_yet);
    }

pub ended : (cards : List (List ℕ)) → has_end cards ≡ true → Ended cards
ended [] h = absurd (false≢true h)
ended (card ∷ cards) h = by_test (is_end (operation_in card)) refl (ended cards) h
  where
    by_test : (b : Bool) → is_end (operation_in card) ≡ b → (has_end cards ≡ true → Ended cards)
        → (b || has_end cards) ≡ true → Ended (card ∷ cards)
    by_test true is rest e = ended_here card cards is
    by_test false is rest e = ended_later card cards is (rest e)

-- a start that isn't outside the blocks
zero_below : (blocks : ℕ) → 1 ≤ blocks → 0 < 256 * blocks
zero_below blocks h = omega (arith, h)

value_below : (blocks : ℕ) (v : Option ℕ) → 1 ≤ blocks → is_outside blocks v ≡ false → or_zero v < 256 * blocks
value_below blocks None some h = zero_below blocks some
value_below blocks (Some v) some h = leb-false (256 * blocks) v h

pub start_below : (whole : Whole) (k : Known) (f : Option Field) → 1 ≤ whole.blocks
    → start_is_outside whole k f ≡ false → start_in whole k f < 256 * whole.blocks
start_below whole k None some h = zero_below whole.blocks some
start_below whole k (Some (placed a t d)) some h = zero_below whole.blocks some
start_below whole k (Some (half n)) some h = zero_below whole.blocks some
start_below whole k (Some nothing) some h = zero_below whole.blocks some
start_below whole k (Some (value ts)) some h = value_below whole.blocks (value_of whole.names k.place ts) some h
start_below whole k (Some (words ws)) some h = zero_below whole.blocks some
