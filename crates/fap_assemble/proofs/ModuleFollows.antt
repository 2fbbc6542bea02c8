-- What is known before a card of a module is the first of what all its cards tell.
use Rattle.std.proofs.Common.{◌≡◌, ℕ, zero, suc, ◌+◌, ◌<◌, Bool, true, false, List, [], ◌∷◌, ◌++◌, length, get_or, take, drop, None, refl, sym, ap, ◌∙◌, subst, arith, append_assoc, codes, if◌then◌else◌}
use Rattle.std.proofs.lemmas.List.{append-nil}
use Rattle.fap_read.specs.declared.card.Card.{Card}
use Rattle.fap_model.specs.Cards.{is_comment, symbol_of}
use Rattle.fap_model.specs.Decks.{fault_entry, literals_with, blocks_for}
use Rattle.link_model.specs.Weights.{with_externs}
use Rattle.link_model.specs.Moves.{Moved, nothing_moved, module_operation, worth, moved_with, moved_behind, moved_after}
use Rattle.link_model.specs.ModuleCards.{Relocated, named_by, module_fault, module_faults_from}
use Rattle.fap_assemble.specs.Steps.{definition, new_symbols, texts}
use Rattle.fap_assemble.specs.Passes.{symbol_entered}
use Rattle.fap_assemble.specs.declared.relocated.Relocated.{Relocated as Held}
use Rattle.fap_assemble.specs.declared.relocated.Spot.{Spot}
use Rattle.fap_assemble.specs.declared.past.Past.{Past}
use Rattle.fap_assemble.specs.Judging.{moved_at, relocated_in, past_of, module_fault_by}
use Rattle.fap_assemble.proofs.Judging.{fault_same}
use Rattle.fap_assemble.specs.ModuleFollows.{Stands, moved_by_cards, relocated_from, TellsAll}
use Rattle.fap_assemble.specs.declared.moves.Moves.{Moves}
use Rattle.fap_assemble.specs.Moving.{moves_in}
use Rattle.fap_assemble.proofs.Follows.{Grows, entered_grows, grows_on, entered_length, front_of}
use Rattle.fap_assemble.proofs.Passes.{texts_at}
use Rattle.fap_assemble.proofs.Moving.{symbols_entered, weights_entered, without_equs, place_same}

symbols_behind : (externs : List ℕ) (m : Moved) (card : List ℕ)
    → (moved_behind externs m card).known.symbols ≡ symbol_entered m.known.symbols (definition card) (worth externs m (module_operation card) card).0
symbols_behind externs m card = by (is_comment card)
  where
    by : (b : Bool) → (if b then m else moved_with externs m (module_operation card) card).known.symbols
        ≡ symbol_entered m.known.symbols (if b then None else symbol_of card) (worth externs m (module_operation card) card).0
    by true = refl
    by false = sym (symbols_entered m.known (symbol_of card) (worth externs m (module_operation card) card).0)

weights_behind : (externs : List ℕ) (m : Moved) (card : List ℕ)
    → (moved_behind externs m card).weights ≡ symbol_entered m.weights (definition card) (worth externs m (module_operation card) card).1
weights_behind externs m card = by (is_comment card)
  where
    by : (b : Bool) → (if b then m else moved_with externs m (module_operation card) card).weights
        ≡ symbol_entered m.weights (if b then None else symbol_of card) (worth externs m (module_operation card) card).1
    by true = refl
    by false = sym (weights_entered m.weights (symbol_of card) (worth externs m (module_operation card) card).1)

-- both tables grow at the end

symbols_grow : (externs : List ℕ) (m : Moved) (cards : List (List ℕ)) → Grows m.known.symbols (moved_after externs m cards).known.symbols
symbols_grow externs m [] = ([], sym (append-nil m.known.symbols))
symbols_grow externs m (card ∷ cards) =
    let next : Moved = moved_behind externs m card in
    let here : Grows m.known.symbols (moved_behind externs m card).known.symbols
    = subst (λ (s : List (ℕ × ℕ)). Grows m.known.symbols s) (sym (symbols_behind externs m card)) (entered_grows m.known.symbols (definition card) (worth externs m (module_operation card) card).0) in
    grows_on m.known.symbols (moved_behind externs m card).known.symbols (moved_after externs m (card ∷ cards)).known.symbols here (symbols_grow externs (moved_behind externs m card) cards)

weights_grow : (externs : List ℕ) (m : Moved) (cards : List (List ℕ)) → Grows m.weights (moved_after externs m cards).weights
weights_grow externs m [] = ([], sym (append-nil m.weights))
weights_grow externs m (card ∷ cards) =
    let here : Grows m.weights (moved_behind externs m card).weights
    = subst (λ (s : List (ℕ × ℕ)). Grows m.weights s) (sym (weights_behind externs m card)) (entered_grows m.weights (definition card) (worth externs m (module_operation card) card).1) in
    grows_on m.weights (moved_behind externs m card).weights (moved_after externs m (card ∷ cards)).weights here (weights_grow externs (moved_behind externs m card) cards)

front_seen : (xs ys : List (ℕ × ℕ)) (n : ℕ) → Grows xs ys → n ≡ length xs → take n ys ≡ xs
front_seen xs ys n g h = front_of xs g.0 ys n g.1 h

-- so a spot tells what is known there

pub seen_symbols : (r : Held) (s : Spot) (m : Moved) (rest : List (List ℕ)) → Stands r s m rest → take s.visible r.whole.symbols ≡ m.known.symbols
seen_symbols r s m rest h =
    front_seen m.known.symbols r.whole.symbols s.visible (subst (λ (t : List (ℕ × ℕ)). Grows m.known.symbols t) h.symbols (symbols_grow r.externs m rest)) h.spot.visible

pub seen_weights : (r : Held) (s : Spot) (m : Moved) (rest : List (List ℕ)) → Stands r s m rest → take s.weighed r.weights ≡ m.weights
seen_weights r s m rest h =
    front_seen m.weights r.weights s.weighed (subst (λ (t : List (ℕ × ℕ)). Grows m.weights t) h.weights (weights_grow r.externs m rest)) h.spot.weighed

pub seen_moved : (r : Held) (s : Spot) (m : Moved) (rest : List (List ℕ)) → Stands r s m rest → moved_at r s ≡ without_equs m
seen_moved r s m rest h = rw (seen_symbols r s m rest h, seen_weights r s m rest h, h.spot.place) refl

-- the next spot

pub spot_next : (r : Held) (s t : Spot) (m : Moved) (card : List ℕ) (rest : List (List ℕ)) → Stands r s m (card ∷ rest)
    → t.place ≡ (moved_behind r.externs m card).known.place → t.visible ≡ s.visible + new_symbols (take s.visible r.whole.symbols) (definition card)
    → t.weighed ≡ s.weighed + new_symbols (take s.weighed r.weights) (definition card) → Stands r t (moved_behind r.externs m card) rest
spot_next r s t m card rest h p v w =
    let symbols : length (moved_behind r.externs m card).known.symbols ≡ length m.known.symbols + new_symbols m.known.symbols (definition card)
    = ap (λ (l : List (ℕ × ℕ)). length l) (symbols_behind r.externs m card) ∙ entered_length m.known.symbols (definition card) (worth r.externs m (module_operation card) card).0 in
    let weights : length (moved_behind r.externs m card).weights ≡ length m.weights + new_symbols m.weights (definition card)
    = ap (λ (l : List (ℕ × ℕ)). length l) (weights_behind r.externs m card) ∙ entered_length m.weights (definition card) (worth r.externs m (module_operation card) card).1 in
    let visible : t.visible ≡ s.visible + new_symbols m.known.symbols (definition card)
    = v ∙ ap (λ (l : List (ℕ × ℕ)). s.visible + new_symbols l (definition card)) (seen_symbols r s m (card ∷ rest) h) in
    let weighed : t.weighed ≡ s.weighed + new_symbols m.weights (definition card)
    = w ∙ ap (λ (l : List (ℕ × ℕ)). s.weighed + new_symbols l (definition card)) (seen_weights r s m (card ∷ rest) h) in
    record {
      spot = record { place = p; visible = omega (arith, symbols, visible, h.spot.visible); weighed = omega (arith, weights, weighed, h.spot.weighed) };
      symbols = h.symbols;
      weights = h.weights;
    }

-- the cards so far

pub after_more : (externs : List ℕ) (m : Moved) (xs ys : List (List ℕ)) → moved_after externs m (xs ++ ys) ≡ moved_after externs (moved_after externs m xs) ys
after_more externs m [] ys = refl
after_more externs m (x ∷ xs) ys = after_more externs (moved_behind externs m x) xs ys

pub texts_taken : (cards : List Card) (i : ℕ) (c : Card) → i < length cards → c ≡ get_or cards i c → texts (take (i + 1) cards) ≡ texts (take i cards) ++ c.text ∷ []
texts_taken [] i c h e = absurd (omega arith)
texts_taken (x ∷ cards) zero c h e = rw e refl
texts_taken (x ∷ cards) (suc i) c h e =
    let next : suc i + 1 ≡ suc (i + 1) = omega arith in
    rw next (ap (λ (l : List (List ℕ)). x.text ∷ l) (texts_taken cards i c (omega arith) e))

-- faults, card by card

pub faults_rest : (r : Relocated) (cards : List Card) (i : ℕ) (c : Card) (text : List ℕ) (m next : Moved) (before after : List (List ℕ)) (n k fault : ℕ) (fs gs all : List (ℕ × ℕ)) → i < length cards
    → c ≡ get_or cards i c → text ≡ c.text → fs ++ module_faults_from r n m before (texts (drop i cards)) ≡ all → fault ≡ module_fault r m before text → gs ≡ fs ++ fault_entry n fault
    → next ≡ moved_behind r.externs m text → after ≡ before ++ text ∷ [] → k ≡ n + 1 → gs ++ module_faults_from r k next after (texts (drop (i + 1) cards)) ≡ all
faults_rest r cards i c text m next before after n k fault fs gs all lt is e h f g s b number =
    let first : texts (drop i cards) ≡ text ∷ texts (drop (i + 1) cards) = texts_at cards i c lt is ∙ ap (λ (x : List ℕ). x ∷ texts (drop (i + 1) cards)) (sym e) in
    let one : k ≡ suc n = omega (arith, number) in
    let told : fs ++ (fault_entry n (module_fault r m before text) ++ module_faults_from r (suc n) (moved_behind r.externs m text) (before ++ text ∷ []) (texts (drop (i + 1) cards))) ≡ all
    = sym (ap (λ (cs : List (List ℕ)). fs ++ module_faults_from r n m before cs) first) ∙ h in
    rw (g, s, b, one, f)
    (append_assoc fs (fault_entry n (module_fault r m before text)) (module_faults_from r (suc n) (moved_behind r.externs m text) (before ++ text ∷ []) (texts (drop (i + 1) cards))) ∙ told)

-- the cards so far with one more

pub moved_taken : (externs : List ℕ) (cards : List Card) (i : ℕ) (c : Card) (text : List ℕ) → i < length cards → c ≡ get_or cards i c → text ≡ c.text
    → moved_by_cards externs (texts (take (i + 1) cards)) ≡ moved_behind externs (moved_by_cards externs (texts (take i cards))) text
moved_taken externs cards i c text lt is e =
    ap (moved_by_cards externs) (texts_taken cards i c lt is ∙ ap (λ (x : List ℕ). texts (take i cards) ++ x ∷ []) (sym e)) ∙ after_more externs nothing_moved (texts (take i cards)) (text ∷ [])

pub stands_taken : (r : Held) (s t : Spot) (cards : List Card) (i : ℕ) (c : Card) (text : List ℕ) → i < length cards → c ≡ get_or cards i c → text ≡ c.text
    → Stands r s (moved_by_cards r.externs (texts (take i cards))) (texts (drop i cards))
    → t.place ≡ (moved_behind r.externs (moved_at r s) text).known.place → t.visible ≡ s.visible + new_symbols (take s.visible r.whole.symbols) (definition text)
    → t.weighed ≡ s.weighed + new_symbols (take s.weighed r.weights) (definition text)
    → Stands r t (moved_by_cards r.externs (texts (take (i + 1) cards))) (texts (drop (i + 1) cards))
stands_taken r s t cards i c text lt is e h p v w =
    let m : Moved = moved_by_cards r.externs (texts (take i cards)) in
    let first : texts (drop i cards) ≡ text ∷ texts (drop (i + 1) cards) = texts_at cards i c lt is ∙ ap (λ (x : List ℕ). x ∷ texts (drop (i + 1) cards)) (sym e) in
    let here : Stands r s (moved_by_cards r.externs (texts (take i cards))) (text ∷ texts (drop (i + 1) cards))
    = subst (λ (cs : List (List ℕ)). Stands r s (moved_by_cards r.externs (texts (take i cards))) cs) first h in
    let place : t.place ≡ (moved_behind r.externs (moved_by_cards r.externs (texts (take i cards))) text).known.place
    = p ∙ ap (λ (n : Moved). (moved_behind r.externs n text).known.place) (seen_moved r s (moved_by_cards r.externs (texts (take i cards))) (text ∷ texts (drop (i + 1) cards)) here)
    ∙ place_same r.externs (moved_by_cards r.externs (texts (take i cards))) text in
    subst (λ (n : Moved). Stands r t n (texts (drop (i + 1) cards))) (sym (moved_taken r.externs cards i c text lt is e))
    (spot_next r s t (moved_by_cards r.externs (texts (take i cards))) text (texts (drop (i + 1) cards)) here place v w)

pub fault_here : (r : Held) (s : Spot) (cards : List Card) (i : ℕ) (c : Card) (text : List ℕ) (p : Past) (fault : ℕ) → i < length cards → c ≡ get_or cards i c → text ≡ c.text
    → Stands r s (moved_by_cards r.externs (texts (take i cards))) (texts (drop i cards)) → p ≡ past_of (texts (take i cards))
    → fault ≡ module_fault_by (relocated_in r) p (moved_at r s) text
    → fault ≡ module_fault (relocated_in r) (moved_by_cards r.externs (texts (take i cards))) (texts (take i cards)) text
fault_here r s cards i c text p fault lt is e h b f =
    let at : moved_at r s ≡ without_equs (moved_by_cards r.externs (texts (take i cards))) = seen_moved r s (moved_by_cards r.externs (texts (take i cards))) (texts (drop i cards)) h in
    f ∙ ap (λ (q : Past). module_fault_by (relocated_in r) q (moved_at r s) text) b
    ∙ fault_same (relocated_in r) (moved_by_cards r.externs (texts (take i cards))) (moved_at r s) (texts (take i cards)) text
    (ap (λ (n : Moved). n.known) at) (ap (λ (n : Moved). n.weights) at)

-- what cards tell

abbrev told_of : List ℕ → Moved → List ℕ → Relocated
told_of externs m literals = record {
  whole = record { names = with_externs externs m.known.symbols; literals = literals; end_place = m.known.place; blocks = blocks_for (m.known.place + length literals) };
  weights = with_externs externs m.weights;
  equs = m.equs;
  externs = externs;
}

pub tells : (t : Moves) (externs : List ℕ) (read : List (List ℕ)) (r : Held) → relocated_in r ≡ relocated_from t externs → r.whole.symbols ≡ t.symbols → r.weights ≡ t.weights → r.externs ≡ externs
    → externs ≡ named_by (codes "EXTERN") read → moves_in t ≡ moved_after externs nothing_moved read → t.literals ≡ literals_with [] read → TellsAll r read
tells t externs read r all s w x e m l = record {
  told =
      all ∙ ap (λ (n : Moved). told_of externs n t.literals) m ∙ ap (λ (ls : List ℕ). told_of externs (moved_after externs nothing_moved read) ls) l
      ∙ ap (λ (y : List ℕ). told_of y (moved_after y nothing_moved read) (literals_with [] read)) e;
  symbols = ap (λ (y : List ℕ). (moved_after y nothing_moved read).known.symbols) x ∙ sym (ap (λ (n : Moved). n.known.symbols) m) ∙ sym s;
  weights = ap (λ (y : List ℕ). (moved_after y nothing_moved read).weights) x ∙ sym (ap (λ (n : Moved). n.weights) m) ∙ sym w;
}
