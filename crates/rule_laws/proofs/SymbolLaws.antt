-- Symbols by the first card that has them.
use Rattle.std.proofs.Common.{◌≡◌, ℕ, Bool, true, false, cond, nat_eq, if◌then◌else◌, List, [], ◌∷◌, ◌++◌, Option, Some, None, is_none, refl, sym, ap, ◌∙◌, eq-eqb, ne_eqb}
use Rattle.std.proofs.lemmas.List.Elements.{All-head, All-tail}
use Rattle.fap_model.specs.Cards.{is_comment, operation_of, symbol_of}
use Rattle.fap_model.specs.declared.types.Operation.{Operation}
use Rattle.fap_model.specs.Statements.{operation_named}
use Rattle.fap_model.specs.Places.{Known, nothing_known, value_in, with_symbol, known_with, known_behind, known_after}
use Rattle.fap_model.specs.Decks.{operation_in}
use Rattle.rule_laws.specs.Cards.{known, symbol_in, HasSymbol, NoneHas, value_by, ValueOfSymbol}
use Rattle.rule_laws.proofs.PlaceLaws.{known_append}

-- the symbols behind a card
symbols_behind : (k : Known) (card : List ℕ)
    → (known_behind k card).symbols ≡ with_symbol k (symbol_in card) (value_by (operation_in card) k card)
symbols_behind k card = by_comment (is_comment card)
  where
    by_operation : (o : Option Operation)
        → (known_with k o card).symbols ≡ with_symbol k (symbol_of card) (value_by o k card)
    by_operation None = refl
    by_operation (Some o) = refl

    by_comment :
        (b : Bool)
        → (if b then k else known_with k (operation_named (operation_of card)) card).symbols
        ≡ with_symbol k (if b then None else symbol_of card)
        (value_by (if b then None else operation_named (operation_of card)) k card)
    by_comment true = refl
    by_comment false = by_operation (operation_named (operation_of card))

-- values in two lists of symbols, one behind the other

value_kept : (es fs : List (ℕ × ℕ)) (name v : ℕ) → value_in es name ≡ Some v → value_in (es ++ fs) name ≡ Some v
value_kept [] fs name v h = cc
value_kept (e ∷ es) fs name v h = by_test (nat_eq name e.0) (value_kept es fs name v) h
  where
    by_test : (b : Bool) → (value_in es name ≡ Some v → value_in (es ++ fs) name ≡ Some v)
        → cond b (Some e.1) (value_in es name) ≡ Some v → cond b (Some e.1) (value_in (es ++ fs) name) ≡ Some v
    by_test true rest k = k
    by_test false rest k = rest k

value_past : (es fs : List (ℕ × ℕ)) (name : ℕ) → value_in es name ≡ None → value_in (es ++ fs) name ≡ value_in fs name
value_past [] fs name h = refl
value_past (e ∷ es) fs name h = by_test (nat_eq name e.0) (value_past es fs name) h
  where
    by_test : (b : Bool) → (value_in es name ≡ None → value_in (es ++ fs) name ≡ value_in fs name)
        → cond b (Some e.1) (value_in es name) ≡ None → cond b (Some e.1) (value_in (es ++ fs) name) ≡ value_in fs name
    by_test true rest k = cc
    by_test false rest k = rest k

-- one symbol more

kept_by : (k : Known) (o : Option ℕ) (v name w : ℕ) → value_in k.symbols name ≡ Some w
    → value_in (with_symbol k o v) name ≡ Some w
kept_by k None v name w h = h
kept_by k (Some n) v name w h = by_test (is_none (value_in k.symbols n))
  where
    by_test : (b : Bool) → value_in (if b then k.symbols ++ (n, v) ∷ [] else k.symbols) name ≡ Some w
    by_test true = value_kept k.symbols ((n, v) ∷ []) name w h
    by_test false = h

none_by : (k : Known) (o : Option ℕ) (v name : ℕ) → (o ≡ Some name → ⊥) → value_in k.symbols name ≡ None
    → value_in (with_symbol k o v) name ≡ None
none_by k None v name other h = h
none_by k (Some n) v name other h = by_test (is_none (value_in k.symbols n))
  where
    differs : nat_eq name n ≡ false
    differs = ne_eqb name n (λ (e : name ≡ n). other (ap (λ (m : ℕ). Some m) (sym e)))

    alone : value_in ((n, v) ∷ []) name ≡ None
    alone = ap (λ (b : Bool). cond b (Some v) None) differs

    by_test : (b : Bool) → value_in (if b then k.symbols ++ (n, v) ∷ [] else k.symbols) name ≡ None
    by_test true = value_past k.symbols ((n, v) ∷ []) name h ∙ alone
    by_test false = h

new_by : (k : Known) (v name : ℕ) → value_in k.symbols name ≡ None
    → value_in (with_symbol k (Some name) v) name ≡ Some v
new_by k v name h =
    let new : is_none (value_in k.symbols name) ≡ true = ap (λ (o : Option ℕ). is_none o) h in
    ap (λ (b : Bool). value_in (if b then k.symbols ++ (name, v) ∷ [] else k.symbols) name) new
    ∙ value_past k.symbols ((name, v) ∷ []) name h
    ∙ ap (λ (b : Bool). cond b (Some v) None) (eq-eqb name name refl)

-- many cards

kept_after : (k : Known) (cards : List (List ℕ)) (name w : ℕ) → value_in k.symbols name ≡ Some w
    → value_in (known_after k cards).symbols name ≡ Some w
kept_after k [] name w h = h
kept_after k (card ∷ cards) name w h =
    kept_after (known_behind k card) cards name w
    (ap (λ (l : List (ℕ × ℕ)). value_in l name) (symbols_behind k card)
    ∙ kept_by k (symbol_in card) (value_by (operation_in card) k card) name w h)

none_after : (k : Known) (cards : List (List ℕ)) (name : ℕ) → NoneHas name cards → value_in k.symbols name ≡ None
    → value_in (known_after k cards).symbols name ≡ None
none_after k [] name none h = h
none_after k (card ∷ cards) name none h =
    let P : List ℕ → Type 0 = λ (c : List ℕ). ¬ (HasSymbol name c) in
    none_after (known_behind k card) cards name (All-tail P card cards none)
    (ap (λ (l : List (ℕ × ℕ)). value_in l name) (symbols_behind k card)
    ∙ none_by k (symbol_in card) (value_by (operation_in card) k card) name (All-head P card cards none) h)

pub value_of_symbol : ValueOfSymbol
value_of_symbol = record { first = first; none = λ cards name none. none_after nothing_known cards name none refl }
  where
    new : (k : Known) (card : List ℕ) (name : ℕ) → HasSymbol name card → value_in k.symbols name ≡ None
        → value_in (known_behind k card).symbols name ≡ Some (value_by (operation_in card) k card)
    new k card name has h =
        ap (λ (l : List (ℕ × ℕ)). value_in l name) (symbols_behind k card)
        ∙ ap (λ (o : Option ℕ). value_in (with_symbol k o (value_by (operation_in card) k card)) name) has
        ∙ new_by k (value_by (operation_in card) k card) name h

    first :
        (before after : List (List ℕ)) (card : List ℕ) (name : ℕ) → HasSymbol name card → NoneHas name before
        → value_in (known (before ++ card ∷ after)).symbols name
        ≡ Some (value_by (operation_in card) (known before) card)
    first before after card name has none =
        ap (λ (k : Known). value_in k.symbols name) (known_append nothing_known before (card ∷ after))
        ∙ kept_after (known_behind (known before) card) after name (value_by (operation_in card) (known before) card)
        (new (known before) card name has (none_after nothing_known before name none refl))
