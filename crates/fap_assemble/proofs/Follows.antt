-- Symbols only grow at the end, so those known before a card are the first of the whole table.
use Rattle.std.proofs.Common.{◌≡◌, ℕ, zero, suc, ◌+◌, ◌<◌, Bool, true, false, List, [], ◌∷◌, ◌++◌, length, get_or, take, drop, Option, Some, None, is_none, refl, sym, ap, ◌∙◌, subst, arith, append_assoc, length-append, length-take, if◌then◌else◌}
use Rattle.std.proofs.lemmas.List.{append-nil}
use Rattle.fap_read.specs.declared.card.Card.{Card}
use Rattle.fap_model.specs.Places.{Known, value_in, known_behind, known_after}
use Rattle.fap_model.specs.Decks.{Whole, operation_in, words_by, fault_of, fault_entry, faults_from}
use Rattle.bss_loader.specs.Runs.{Open, words_in}
use Rattle.fap_assemble.specs.Runs.{cards_in}
use Rattle.fap_assemble.specs.Fields.{known_at}
use Rattle.fap_assemble.specs.Steps.{definition, place_by, value_by, new_symbols, texts}
use Rattle.fap_assemble.specs.Passes.{symbol_entered}
use Rattle.fap_assemble.specs.Follows.{Follows}
use Rattle.fap_assemble.proofs.Passes.{parts_behind, texts_at}

-- the list begins with the other
abbrev pub Grows : List (ℕ × ℕ) → List (ℕ × ℕ) → Type 0
Grows xs ys = (more : List (ℕ × ℕ)) × (ys ≡ xs ++ more)

pub entered_grows : (xs : List (ℕ × ℕ)) (name : Option ℕ) (v : ℕ) → Grows xs (symbol_entered xs name v)
entered_grows xs None v = ([], sym (append-nil xs))
entered_grows xs (Some name) v = by (is_none (value_in xs name))
  where
    by : (b : Bool) → Grows xs (if b then xs ++ (name, v) ∷ [] else xs)
    by true = ((name, v) ∷ [], refl)
    by false = ([], sym (append-nil xs))

behind_grows : (k : Known) (card : List ℕ) → Grows k.symbols (known_behind k card).symbols
behind_grows k card =
    let parts = parts_behind k card in
    subst (λ (n : Known). Grows k.symbols n.symbols) (sym parts) (entered_grows k.symbols (definition card) (value_by (operation_in card) k card))

pub grows_on : (xs ys zs : List (ℕ × ℕ)) → Grows xs ys → Grows ys zs → Grows xs zs
grows_on xs ys zs a b = (a.0 ++ b.0, b.1 ∙ ap (λ (l : List (ℕ × ℕ)). l ++ b.0) a.1 ∙ append_assoc xs a.0 b.0)

all_grow : (k : Known) (cards : List (List ℕ)) → Grows k.symbols (known_after k cards).symbols
all_grow k [] = ([], sym (append-nil k.symbols))
all_grow k (card ∷ cards) = grows_on k.symbols (known_behind k card).symbols (known_after k (card ∷ cards)).symbols (behind_grows k card) (all_grow (known_behind k card) cards)

pub entered_length : (xs : List (ℕ × ℕ)) (name : Option ℕ) (v : ℕ) → length (symbol_entered xs name v) ≡ length xs + new_symbols xs name
entered_length xs None v = omega arith
entered_length xs (Some name) v = by (is_none (value_in xs name))
  where
    by : (b : Bool) → length (if b then xs ++ (name, v) ∷ [] else xs) ≡ length xs + (if b then 1 else 0)
    by true = length-append xs ((name, v) ∷ [])
    by false = omega arith

pub front_of : (xs more ys : List (ℕ × ℕ)) (n : ℕ) → ys ≡ xs ++ more → n ≡ length xs → take n ys ≡ xs
front_of xs more ys n e h = rw (e, h) (front xs)
  where
    front : (zs : List (ℕ × ℕ)) → take (length zs) (zs ++ more) ≡ zs
    front [] = refl
    front (z ∷ zs) = ap (λ (l : List (ℕ × ℕ)). z ∷ l) (front zs)

module _ (symbols : List (ℕ × ℕ)) (visible place next_visible next : ℕ) (card : List ℕ) (rest : List (List ℕ)) (h : Follows symbols visible place (card ∷ rest))
    (p : next ≡ place_by (operation_in card) (known_at symbols visible place) card) (v : next_visible ≡ visible + new_symbols (take visible symbols) (definition card)) where
  behind : Known
  behind = known_behind (known_at symbols visible place) card

  long : next_visible ≡ length behind.symbols
  unfolding behind
  long =
      let parts = parts_behind (known_at symbols visible place) card in
      let lengths = entered_length (take visible symbols) (definition card) (value_by (operation_in card) (known_at symbols visible place) card) in
      let short : length (take visible symbols) ≡ visible = simp length-take (omega (arith, h.within)) in
      let grown : length (known_behind (known_at symbols visible place) card).symbols ≡ visible + new_symbols (take visible symbols) (definition card)
      = ap (λ (n : Known). length n.symbols) parts ∙ lengths ∙ ap (λ (n : ℕ). n + new_symbols (take visible symbols) (definition card)) short in
      v ∙ sym grown

  whole_front : take next_visible symbols ≡ behind.symbols
  unfolding behind
  whole_front =
      let g = all_grow (known_behind (known_at symbols visible place) card) rest in
      front_of (known_behind (known_at symbols visible place) card).symbols g.0 symbols next_visible (sym h.all ∙ g.1) long

  pub seen_next : known_at symbols next_visible next ≡ known_behind (known_at symbols visible place) card
  unfolding behind
  seen_next =
      let parts = parts_behind (known_at symbols visible place) card in
      let at : next ≡ (known_behind (known_at symbols visible place) card).place = p ∙ sym (ap (λ (n : Known). n.place) parts) in
      rw (whole_front, at) refl

  pub follows_next : Follows symbols next_visible next rest
  unfolding behind
  follows_next =
      let g = all_grow (known_behind (known_at symbols visible place) card) rest in
      let total : length symbols ≡ length (known_behind (known_at symbols visible place) card).symbols + length g.0
      = ap (λ (l : List (ℕ × ℕ)). length l) (sym h.all ∙ g.1) ∙ length-append (known_behind (known_at symbols visible place) card).symbols g.0 in
      record {
        all = subst (λ (n : Known). (known_after n rest).symbols ≡ symbols) (sym seen_next) h.all;
        within = omega (arith, total, long);
      }

-- the same in a loop over cards

pub follows_at : (symbols : List (ℕ × ℕ)) (cards : List Card) (i : ℕ) (c : Card) (text : List ℕ) (visible place next_visible next : ℕ) → i < length cards → c ≡ get_or cards i c → text ≡ c.text
    → Follows symbols visible place (texts (drop i cards)) → next ≡ place_by (operation_in text) (known_at symbols visible place) text
    → next_visible ≡ visible + new_symbols (take visible symbols) (definition text) → Follows symbols next_visible next (texts (drop (i + 1) cards))
follows_at symbols cards i c text visible place next_visible next lt is e h p v =
    follows_next symbols visible place next_visible next text (texts (drop (i + 1) cards))
    (subst (λ (cs : List (List ℕ)). Follows symbols visible place cs) (texts_at cards i c lt is ∙ ap (λ (x : List ℕ). x ∷ texts (drop (i + 1) cards)) (sym e)) h) p v

pub seen_at : (symbols : List (ℕ × ℕ)) (cards : List Card) (i : ℕ) (c : Card) (text : List ℕ) (visible place next_visible next : ℕ) → i < length cards → c ≡ get_or cards i c → text ≡ c.text
    → Follows symbols visible place (texts (drop i cards)) → next ≡ place_by (operation_in text) (known_at symbols visible place) text
    → next_visible ≡ visible + new_symbols (take visible symbols) (definition text) → known_at symbols next_visible next ≡ known_behind (known_at symbols visible place) text
seen_at symbols cards i c text visible place next_visible next lt is e h p v =
    seen_next symbols visible place next_visible next text (texts (drop (i + 1) cards))
    (subst (λ (cs : List (List ℕ)). Follows symbols visible place cs) (texts_at cards i c lt is ∙ ap (λ (x : List ℕ). x ∷ texts (drop (i + 1) cards)) (sym e)) h) p v

pub faults_at : (w : Whole) (cards : List Card) (i : ℕ) (c : Card) (text : List ℕ) (k next : Known) (n m fault : ℕ) (fs gs all : List (ℕ × ℕ)) → i < length cards → c ≡ get_or cards i c
    → text ≡ c.text → fs ++ faults_from w n k (texts (drop i cards)) ≡ all → fault ≡ fault_of w k text → gs ≡ fs ++ fault_entry n fault → next ≡ known_behind k text → m ≡ n + 1
    → gs ++ faults_from w m next (texts (drop (i + 1) cards)) ≡ all
faults_at w cards i c text k next n m fault fs gs all lt is e h f g s number =
    let first : texts (drop i cards) ≡ text ∷ texts (drop (i + 1) cards) = texts_at cards i c lt is ∙ ap (λ (x : List ℕ). x ∷ texts (drop (i + 1) cards)) (sym e) in
    let one : m ≡ suc n = omega (arith, number) in
    let before : fs ++ (fault_entry n (fault_of w k text) ++ faults_from w (suc n) (known_behind k text) (texts (drop (i + 1) cards))) ≡ all = rw first at h in
    rw (g, s, one, f) (append_assoc fs (fault_entry n (fault_of w k text)) (faults_from w (suc n) (known_behind k text) (texts (drop (i + 1) cards))) ∙ before)

-- cards without a fault, and their words

pub no_entry : (n f : ℕ) (more : List (ℕ × ℕ)) → fault_entry n f ++ more ≡ [] → (f ≡ 0) × (more ≡ [])
no_entry n zero more h = (refl, h)
no_entry n (suc f) more h = absurd (some_none h)
  where
    some_none : ((n, suc f) ∷ more) ≡ [] → ⊥
    some_none h = cc

first_sound : (w : Whole) (cards : List Card) (i : ℕ) (c : Card) (text : List ℕ) (k : Known) (n : ℕ) → i < length cards → c ≡ get_or cards i c → text ≡ c.text
    → faults_from w n k (texts (drop i cards)) ≡ [] → (fault_of w k text ≡ 0) × (faults_from w (suc n) (known_behind k text) (texts (drop (i + 1) cards)) ≡ [])
first_sound w cards i c text k n lt is e h =
    let first : texts (drop i cards) ≡ text ∷ texts (drop (i + 1) cards) = texts_at cards i c lt is ∙ ap (λ (x : List ℕ). x ∷ texts (drop (i + 1) cards)) (sym e) in
    no_entry n (fault_of w k text) (faults_from w (suc n) (known_behind k text) (texts (drop (i + 1) cards))) (sym (ap (λ (cs : List (List ℕ)). faults_from w n k cs) first) ∙ h)

pub sound_here : (w : Whole) (cards : List Card) (i : ℕ) (c : Card) (text : List ℕ) (k : Known) (n : ℕ) → i < length cards → c ≡ get_or cards i c → text ≡ c.text
    → faults_from w n k (texts (drop i cards)) ≡ [] → fault_of w k text ≡ 0
sound_here w cards i c text k n lt is e h = (first_sound w cards i c text k n lt is e h).0

pub sound_behind : (w : Whole) (cards : List Card) (i : ℕ) (c : Card) (text : List ℕ) (k next : Known) (n : ℕ) → i < length cards → c ≡ get_or cards i c → text ≡ c.text
    → faults_from w n k (texts (drop i cards)) ≡ [] → next ≡ known_behind k text → faults_from w (n + 1) next (texts (drop (i + 1) cards)) ≡ []
sound_behind w cards i c text k next n lt is e h s =
    let one : n + 1 ≡ suc n = omega arith in
    rw (s, one) (first_sound w cards i c text k n lt is e h).1

pub words_at : (w : Whole) (cards : List Card) (i : ℕ) (c : Card) (text : List ℕ) (k next : Known) (o p all : Open) → i < length cards → c ≡ get_or cards i c → text ≡ c.text
    → cards_in w o k (texts (drop i cards)) ≡ all → p ≡ words_in o k.place (words_by w k (operation_in text) text) → next ≡ known_behind k text
    → cards_in w p next (texts (drop (i + 1) cards)) ≡ all
words_at w cards i c text k next o p all lt is e h g s =
    let first : texts (drop i cards) ≡ text ∷ texts (drop (i + 1) cards) = texts_at cards i c lt is ∙ ap (λ (x : List ℕ). x ∷ texts (drop (i + 1) cards)) (sym e) in
    rw (g, s) (sym (ap (λ (cs : List (List ℕ)). cards_in w o k cs) first) ∙ h)
