-- What a card does to what is known, and what all cards come to.
use Rattle.std.proofs.Common.{◌≡◌, ℕ, zero, suc, ◌+◌, ◌<◌, ◌≤◌, max, ◌%◌, ◌^◌, Bool, true, false, List, [], ◌∷◌, length, get_or, drop, take_all, Option, Some, None, refl, sym, ap, ◌∙◌, subst, arith, if◌then◌else◌}
use Rattle.fap_model.specs.Cards.{is_comment, operation_of, symbol_of}
use Rattle.fap_model.specs.declared.types.Operation.{Operation}
use Rattle.fap_model.specs.Statements.{operation_named}
use Rattle.fap_model.specs.Places.{Known, with_symbol, known_with, known_behind}
use Rattle.fap_model.specs.Decks.{operation_in, size_by, reach_of, literal_by, with_literal}
use Rattle.fap_assemble.specs.Fields.{known_at}
use Rattle.fap_assemble.specs.Steps.{definition, place_by, value_by, texts}
use Rattle.fap_read.specs.declared.card.Card.{Card}
use Rattle.fap_assemble.specs.declared.tables.Tables.{Tables}
use Rattle.fap_assemble.specs.Passes.{symbol_entered, known_in, Comes}

with_entered : (k : Known) (name : Option ℕ) (v : ℕ) → with_symbol k name v ≡ symbol_entered k.symbols name v
with_entered k None v = refl
with_entered k (Some name) v = refl

named_parts : (k : Known) (card : List ℕ) (o : Option Operation)
    → known_with k o card ≡ record { place = place_by o k card; symbols = symbol_entered k.symbols (symbol_of card) (value_by o k card) }
named_parts k card None = rw (with_entered k (symbol_of card) (k.place % 2 ^ 15)) refl
named_parts k card (Some o) = rw (with_entered k (symbol_of card) (value_by (Some o) k card)) refl

parts_case : (k : Known) (card : List ℕ) (b : Bool)
    → (if b then k else known_with k (operation_named (operation_of card)) card)
    ≡ (let o : Option Operation = if b then None else operation_named (operation_of card) in
    record { place = place_by o k card; symbols = symbol_entered k.symbols (if b then None else symbol_of card) (value_by o k card) })
parts_case k card true = refl
parts_case k card false = named_parts k card (operation_named (operation_of card))

-- what is known behind a card, part by part
pub parts_behind : (k : Known) (card : List ℕ)
    → known_behind k card ≡ record { place = place_by (operation_in card) k card; symbols = symbol_entered k.symbols (definition card) (value_by (operation_in card) k card) }
parts_behind k card = parts_case k card (is_comment card)

seen_all : (symbols : List (ℕ × ℕ)) (place : ℕ) → known_at symbols (length symbols) place ≡ record { place = place; symbols = symbols }
seen_all symbols place = rw (take_all (length symbols) symbols (omega arith)) refl

pub entered_known : (symbols : List (ℕ × ℕ)) (place next value : ℕ) (card : List ℕ) → next ≡ place_by (operation_in card) (known_at symbols (length symbols) place) card
    → value ≡ value_by (operation_in card) (known_at symbols (length symbols) place) card
    → known_behind (record { place = place; symbols = symbols }) card ≡ record { place = next; symbols = symbol_entered symbols (definition card) value }
entered_known symbols place next value card n v =
    let at : known_at symbols (length symbols) place ≡ record { place = place; symbols = symbols } = seen_all symbols place in
    parts_behind (record { place = place; symbols = symbols }) card ∙ rw (n, v, at) refl

pub entered_reach : (symbols : List (ℕ × ℕ)) (place size : ℕ) (card : List ℕ) → size ≡ size_by (operation_in card) (known_at symbols (length symbols) place) card
    → size_by (operation_in card) (record { place = place; symbols = symbols }) card ≡ size
entered_reach symbols place size card s =
    let at : known_at symbols (length symbols) place ≡ record { place = place; symbols = symbols } = seen_all symbols place in
    rw (s, at) refl

pub entered : (symbols new : List (ℕ × ℕ)) (place next value : ℕ) (card : List ℕ) → next ≡ place_by (operation_in card) (known_at symbols (length symbols) place) card
    → value ≡ value_by (operation_in card) (known_at symbols (length symbols) place) card → new ≡ symbol_entered symbols (definition card) value
    → record { place = next; symbols = new } ≡ known_behind (record { place = place; symbols = symbols }) card
entered symbols new place next value card n v e = rw e (sym (entered_known symbols place next value card n v))

pub reach_most : (reach place size most : ℕ) → place + size ≤ most → reach_of reach place size ≤ max reach most
reach_most reach place zero most h = omega arith
reach_most reach place (suc n) most h = omega (arith, h)

-- the first of the rest of the cards
pub texts_at : (cards : List Card) (i : ℕ) (c : Card) → i < length cards → c ≡ get_or cards i c → texts (drop i cards) ≡ c.text ∷ texts (drop (i + 1) cards)
texts_at [] i c h e = absurd (omega arith)
texts_at (x ∷ cards) zero c h e = rw e refl
texts_at (x ∷ cards) (suc i) c h e = let next : suc i + 1 ≡ suc (i + 1) = omega arith in rw next (texts_at cards i c (omega arith) e)

pub comes_next : (t u : Tables) (card : List ℕ) (rest : List (List ℕ)) (k : Known) (ls : List ℕ) (r : ℕ) → Comes t (card ∷ rest) k ls r
    → known_in u ≡ known_behind (known_in t) card → u.literals ≡ with_literal t.literals (literal_by (operation_in card) card)
    → u.reach ≡ reach_of t.reach t.place (size_by (operation_in card) (known_in t) card) → Comes u rest k ls r
comes_next t u card rest k ls r h a b c = record {
  known = rw a h.known;
  literals_are = rw b h.literals_are;
  reach_is = rw (a, c) h.reach_is;
}

pub comes_at : (cards : List Card) (i : ℕ) (c : Card) (text : List ℕ) (t u : Tables) (k : Known) (ls : List ℕ) (r : ℕ) → i < length cards → c ≡ get_or cards i c → text ≡ c.text
    → Comes t (texts (drop i cards)) k ls r → known_in u ≡ known_behind (known_in t) text → u.literals ≡ with_literal t.literals (literal_by (operation_in text) text)
    → u.reach ≡ reach_of t.reach t.place (size_by (operation_in text) (known_in t) text) → Comes u (texts (drop (i + 1) cards)) k ls r
comes_at cards i c text t u k ls r lt is e h a b d =
    comes_next t u text (texts (drop (i + 1) cards)) k ls r (subst (λ (cs : List (List ℕ)). Comes t cs k ls r) (texts_at cards i c lt is ∙ ap (λ (x : List ℕ). x ∷ texts (drop (i + 1) cards)) (sym e)) h) a b d
