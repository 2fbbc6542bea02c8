-- The places of a module's cards, card by card.
use Rattle.std.proofs.Common.{◌≡◌, ℕ, suc, ◌+◌, ◌<◌, List, [], ◌∷◌, ◌++◌, length, get_or, take, drop, sym, ap, ◌∙◌, arith, append_assoc}
use Rattle.fap_read.specs.declared.card.Card.{Card}
use Rattle.link_model.specs.declared.types.ModulePlace.{ModulePlace}
use Rattle.link_model.specs.Moves.{Moved, module_operation, moved_behind}
use Rattle.link_model.specs.ModuleCards.{Relocated, module_fault, module_faults_from, cells_by, cells_from}
use Rattle.fap_assemble.specs.Steps.{texts}
use Rattle.fap_assemble.specs.declared.relocated.Relocated.{Relocated as Held}
use Rattle.fap_assemble.specs.declared.relocated.Spot.{Spot}
use Rattle.fap_assemble.specs.Judging.{relocated_in, moved_at, past_of}
use Rattle.fap_assemble.specs.ModuleFollows.{Stands, moved_by_cards}
use Rattle.fap_assemble.specs.CellWords.{IsSound}
use Rattle.fap_assemble.proofs.Passes.{texts_at}
use Rattle.fap_assemble.proofs.Follows.{no_entry}
use Rattle.fap_assemble.proofs.Judging.{fault_same}
use Rattle.fap_assemble.proofs.CellWords.{cells_same}
use Rattle.fap_assemble.proofs.Moving.{without_equs}
use Rattle.fap_assemble.proofs.ModuleFollows.{seen_moved}

first_text : (cards : List Card) (i : ℕ) (c : Card) (text : List ℕ) → i < length cards → c ≡ get_or cards i c → text ≡ c.text → texts (drop i cards) ≡ text ∷ texts (drop (i + 1) cards)
first_text cards i c text lt is e = texts_at cards i c lt is ∙ ap (λ (x : List ℕ). x ∷ texts (drop (i + 1) cards)) (sym e)

no_first : (r : Relocated) (cards : List Card) (i : ℕ) (c : Card) (text : List ℕ) (m : Moved) (before : List (List ℕ)) (n : ℕ) → i < length cards → c ≡ get_or cards i c → text ≡ c.text
    → module_faults_from r n m before (texts (drop i cards)) ≡ []
    → (module_fault r m before text ≡ 0) × (module_faults_from r (suc n) (moved_behind r.externs m text) (before ++ text ∷ []) (texts (drop (i + 1) cards)) ≡ [])
no_first r cards i c text m before n lt is e h =
    no_entry n (module_fault r m before text) (module_faults_from r (suc n) (moved_behind r.externs m text) (before ++ text ∷ []) (texts (drop (i + 1) cards)))
    (sym (ap (λ (cs : List (List ℕ)). module_faults_from r n m before cs) (first_text cards i c text lt is e)) ∙ h)

pub sound_at : (r : Held) (s : Spot) (cards : List Card) (i : ℕ) (c : Card) (text : List ℕ) (n : ℕ) → i < length cards → c ≡ get_or cards i c → text ≡ c.text
    → Stands r s (moved_by_cards r.externs (texts (take i cards))) (texts (drop i cards))
    → module_faults_from (relocated_in r) n (moved_by_cards r.externs (texts (take i cards))) (texts (take i cards)) (texts (drop i cards)) ≡ []
    → IsSound (relocated_in r) (moved_at r s) text
sound_at r s cards i c text n lt is e stands h =
    let at : moved_at r s ≡ without_equs (moved_by_cards r.externs (texts (take i cards))) = seen_moved r s (moved_by_cards r.externs (texts (take i cards))) (texts (drop i cards)) stands in (
      past_of (texts (take i cards)),
      fault_same (relocated_in r) (moved_by_cards r.externs (texts (take i cards))) (moved_at r s) (texts (take i cards)) text (ap (λ (n : Moved). n.known) at) (ap (λ (n : Moved). n.weights) at)
          ∙ (no_first (relocated_in r) cards i c text (moved_by_cards r.externs (texts (take i cards))) (texts (take i cards)) n lt is e h).0,
    )

pub sound_rest : (r : Relocated) (cards : List Card) (i : ℕ) (c : Card) (text : List ℕ) (m next : Moved) (before after : List (List ℕ)) (n : ℕ) → i < length cards → c ≡ get_or cards i c → text ≡ c.text
    → module_faults_from r n m before (texts (drop i cards)) ≡ [] → next ≡ moved_behind r.externs m text → after ≡ before ++ text ∷ []
    → module_faults_from r (n + 1) next after (texts (drop (i + 1) cards)) ≡ []
sound_rest r cards i c text m next before after n lt is e h a b =
    let one : n + 1 ≡ suc n = omega arith in
    rw (a, b, one) (no_first r cards i c text m before n lt is e h).1

pub cells_rest : (r : Held) (s : Spot) (cards : List Card) (i : ℕ) (c : Card) (text : List ℕ) (next : Moved) (old new all : List ModulePlace) → i < length cards → c ≡ get_or cards i c → text ≡ c.text
    → Stands r s (moved_by_cards r.externs (texts (take i cards))) (texts (drop i cards))
    → old ++ cells_from (relocated_in r) (moved_by_cards r.externs (texts (take i cards))) (texts (drop i cards)) ≡ all
    → new ≡ old ++ cells_by (relocated_in r) (moved_at r s) (module_operation text) text → next ≡ moved_behind r.externs (moved_by_cards r.externs (texts (take i cards))) text
    → new ++ cells_from (relocated_in r) next (texts (drop (i + 1) cards)) ≡ all
cells_rest r s cards i c text next old new all lt is e stands h g n =
    let m : Moved = moved_by_cards r.externs (texts (take i cards)) in
    let at : moved_at r s ≡ without_equs (moved_by_cards r.externs (texts (take i cards))) = seen_moved r s (moved_by_cards r.externs (texts (take i cards))) (texts (drop i cards)) stands in
    let here : cells_by (relocated_in r) (moved_at r s) (module_operation text) text ≡ cells_by (relocated_in r) (moved_by_cards r.externs (texts (take i cards))) (module_operation text) text
    = cells_same (relocated_in r) (moved_by_cards r.externs (texts (take i cards))) (moved_at r s) (module_operation text) text (ap (λ (n : Moved). n.known) at) (ap (λ (n : Moved). n.weights) at) in
    rw (g, here, n)
    (append_assoc old (cells_by (relocated_in r) (moved_by_cards r.externs (texts (take i cards))) (module_operation text) text)
    (cells_from (relocated_in r) (moved_behind r.externs (moved_by_cards r.externs (texts (take i cards))) text) (texts (drop (i + 1) cards)))
    ∙ sym (ap (λ (cs : List (List ℕ)). old ++ cells_from (relocated_in r) (moved_by_cards r.externs (texts (take i cards))) cs) (first_text cards i c text lt is e)) ∙ h)
