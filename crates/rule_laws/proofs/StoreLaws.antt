-- A deck's segments are stored one over the other.
use Rattle.std.proofs.Common.{◌≡◌, ℕ, suc, List, [], ◌∷◌, ◌++◌, length, set, refl, sym, ap, ap₂, subst, ◌∙◌}
use Rattle.program_model.specs.Lines.{with_words}
use Rattle.program_model.specs.Decks.{stored, filled}
use Rattle.fap_model.specs.Decks.{Segment}
use Rattle.rule_laws.specs.Decks.{AreLaid, AreStored, SegmentsAreStored}
use Rattle.rule_laws.proofs.Overlays.{overlaid, overlaid_stores}

-- where no word is left of a segment the place doesn't matter
at_head : (place : ℕ) (words core : List ℕ) → stored 0 place words core ≡ stored 0 0 words core
at_head place [] core = refl
at_head place (w ∷ ws) core = refl

-- the words of a segment are stored at its place
front_stored : (front rest core : List ℕ) (place : ℕ)
    → stored (length front) place (front ++ rest) core ≡ stored 0 0 rest (with_words core place front)
front_stored [] rest core place = at_head place rest core
front_stored (w ∷ front) rest core place = front_stored front rest (set core place w) (suc place)

laid_stored : (segments : List Segment) (words core : List ℕ) → AreLaid segments words
    → stored 0 0 words core ≡ overlaid segments core
laid_stored [] words core laid = ap (λ (l : List ℕ). stored 0 0 l core) laid
laid_stored (s ∷ segments) words core laid =
    ap (λ (l : List ℕ). stored 0 0 l core) laid.2
    ∙ ap₂ (λ (n p : ℕ). stored n p (s.words ++ laid.1) core) laid.4 laid.3
    ∙ front_stored s.words laid.1 core s.first
    ∙ laid_stored segments laid.1 (with_words core s.first s.words) laid.5

pub filled_is : (first : ℕ) (rest : List ℕ) (segments : List Segment) (core : List ℕ) → AreLaid segments rest
    → filled (first ∷ rest) core ≡ overlaid segments core
unfolding filled
filled_is first rest segments core laid = laid_stored segments rest core laid

pub segments_are_stored : SegmentsAreStored
segments_are_stored first rest segments core laid =
    subst (AreStored segments core) (sym (filled_is first rest segments core laid)) (overlaid_stores segments core)
