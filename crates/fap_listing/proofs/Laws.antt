-- A column lies on its card, and no two symbols have one name.
use Rattle.std.proofs.Common.{◌≡◌, ℕ, suc, ◌+◌, ◌≤◌, Bool, true, false, cond, nat_eq, nat_lt, if◌then◌else◌, List, [], ◌∷◌, ◌++◌, length, map, take, Option, Some, None, is_none, refl, sym, ap, subst, arith, true≢false}
use Rattle.std.specs.List.{slice_split, onto_first, prefix_len, IsDistinct, AllByRecursion}
use Rattle.std.proofs.lemmas.List.{length-take}
use Rattle.std.proofs.lemmas.List.Splits.{length-slice_split}
use Rattle.std.proofs.lemmas.Bool.Decides.{nat_tests}
use Rattle.bcd48.specs.Characters.{is_character}
use Rattle.fap_model.specs.Cards.{operation_columns, field_of}
use Rattle.fap_model.specs.Terms.{items_of}
use Rattle.fap_model.specs.declared.types.Operation.{Operation}
use Rattle.fap_model.specs.declared.types.FaultCause.{FaultCause}
use Rattle.fap_model.specs.declared.types.FaultCause.TheVariants.{NoOperation, Characters, BadSymbol, Flag, NoSymbol, BadForm, HighTag, Start, Undefined, Repeated, PastEnd}
use Rattle.fap_model.specs.Places.{Known}
use Rattle.fap_model.specs.Decks.{Whole}
use Rattle.fap_model.specs.Causes.{column_where, field_column, bad_column, column_by}
use Rattle.fap_model.specs.Cards.{is_comment, symbol_of}
use Rattle.fap_model.specs.declared.types.SymbolValue.{SymbolValue}
use Rattle.fap_model.specs.Places.{nothing_known, value_in, with_symbol, symbol_value, known_with, known_behind, known_after}
use Rattle.fap_model.specs.Statements.{operation_named}
use Rattle.fap_model.specs.Cards.{operation_of}
use Rattle.fap_model.specs.Decks.{cards_read}
use Rattle.fap_model.specs.Listed.{listed}
use Rattle.fap_model.specs.Listed.{symbol_value as row_of_symbol}
use Rattle.fap_model.specs.Listings.{ColumnsLie, NamesDiffer}

-- items, laid end to end with a comma behind each
extent : List (List ℕ) → ℕ
extent [] = 0
extent (x ∷ xs) = suc (length x) + extent xs

one_longer : (x : ℕ) (parts : List (List ℕ)) → 1 ≤ length parts → extent (onto_first x parts) ≡ suc (extent parts)
unfolding extent
one_longer x [] some = absurd (omega (arith, some))
one_longer x (part ∷ parts) some = omega arith

split_case : (x n : ℕ) (parts : List (List ℕ)) (b : Bool) → 1 ≤ length parts → extent parts ≡ suc n → extent (cond b ([] ∷ parts) (onto_first x parts)) ≡ suc (suc n)
unfolding extent
split_case x n parts true some is = omega (arith, is)
split_case x n parts false some is = omega (arith, one_longer x parts some, is)

split_extent : (p : ℕ → Bool) (xs : List ℕ) → extent (slice_split p xs) ≡ suc (length xs)
unfolding extent
split_extent p [] = refl
split_extent p (x ∷ xs) = split_case x (length xs) (slice_split p xs) (p x) (omega (arith, length-slice_split p xs)) (split_extent p xs)

least_case : (c d e : ℕ) (b : Bool) → c ≤ d → d ≤ e → c ≤ (if b then e else c)
least_case c d e true near far = omega (arith, near, far)
least_case c d e false near far = omega arith

at_least : (test : ℕ → List ℕ → Bool) (i c : ℕ) (items : List (List ℕ)) → c ≤ column_where test i c items
at_least test i c [] = omega arith
at_least test i c (x ∷ []) = omega arith
at_least test i c (x ∷ y ∷ items) =
    least_case c (c + (length x + 1)) (column_where test (suc i) (c + (length x + 1)) (y ∷ items)) (test i x) (omega arith)
    (at_least test (suc i) (c + (length x + 1)) (y ∷ items))

most_case : (c m e : ℕ) (b : Bool) → e ≤ c + m → (if b then e else c) ≤ c + m
most_case c m e true near = near
most_case c m e false near = omega arith

at_most : (test : ℕ → List ℕ → Bool) (i c : ℕ) (items : List (List ℕ)) → column_where test i c items ≤ c + extent items
unfolding extent
at_most test i c [] = omega arith
at_most test i c (x ∷ []) = omega arith
at_most test i c (x ∷ y ∷ items) =
    let later : column_where test (suc i) (c + (length x + 1)) (y ∷ items) ≤ c + (length x + 1) + extent (y ∷ items) =
    at_most test (suc i) (c + (length x + 1)) (y ∷ items) in
    most_case c (suc (length x) + extent (y ∷ items)) (column_where test (suc i) (c + (length x + 1)) (y ∷ items)) (test i x) (omega (arith, later))

front_short : (m n : ℕ) (xs : List ℕ) → length (take m (take n xs)) ≤ n
front_short m n xs = simp length-take (omega arith)

field_near : (test : ℕ → List ℕ → Bool) (card : List ℕ) → (16 ≤ field_column test card) × (field_column test card ≤ 74)
field_near test card =
    let short : length (field_of card) ≤ 57 = front_short _ 57 _ in
    let whole : extent (items_of (field_of card)) ≡ suc (length (field_of card)) = split_extent (λ b. nat_eq b 44) (field_of card) in
    let most : field_column test card ≤ 16 + extent (items_of (field_of card)) = at_most test 0 16 (items_of (field_of card)) in
    (at_least test 0 16 (items_of (field_of card)), omega (arith, short, whole, most))

prefix_case : (n m : ℕ) (b : Bool) → n ≤ m → cond b (1 + n) 0 ≤ suc m
prefix_case n m true h = omega (arith, h)
prefix_case n m false h = omega arith

prefix_short : (p : ℕ → Bool) (xs : List ℕ) → prefix_len p xs ≤ length xs
prefix_short p [] = omega arith
prefix_short p (x ∷ xs) = prefix_case (prefix_len p xs) (length xs) (p x) (prefix_short p xs)

bad_near : (card : List ℕ) → (1 ≤ bad_column card) × (bad_column card ≤ 85)
bad_near card = by (nat_lt 84 (length card)) refl
  where
    by : (b : Bool) → nat_lt 84 (length card) ≡ b → (1 ≤ (if b then 85 else suc (prefix_len is_character card))) × ((if b then 85 else suc (prefix_len is_character card)) ≤ 85)
    by true h = (omega arith, omega arith)
    by false h =
        let few : length card ≤ 84 = grind (arith, h, nat_tests) in
        let short = prefix_short is_character card in
        (omega arith, omega (arith, few, short))

wide : (n : ℕ) → (16 ≤ n) × (n ≤ 74) → (1 ≤ n) × (n ≤ 85)
wide n h = let low = h.0 in let high = h.1 in (omega (arith, low), omega (arith, high))

lies : (o : Option Operation) (whole : Whole) (k : Known) (card : List ℕ) (cause : FaultCause) → (1 ≤ column_by o whole k card cause) × (column_by o whole k card cause ≤ 85)
lies o whole k card NoOperation = (omega arith, omega arith)
lies o whole k card Characters = bad_near card
lies o whole k card BadSymbol = (omega arith, omega arith)
lies o whole k card Flag = let short : length (operation_columns card) ≤ 8 = front_short _ 8 _ in (omega arith, omega (arith, short))
lies o whole k card NoSymbol = (omega arith, omega arith)
lies None whole k card BadForm = (omega arith, omega arith)
lies (Some o) whole k card BadForm = wide _ (field_near _ card)
lies o whole k card HighTag = wide _ (field_near _ card)
lies o whole k card Start = (omega arith, omega arith)
lies None whole k card Undefined = (omega arith, omega arith)
lies (Some o) whole k card Undefined = wide _ (field_near _ card)
lies o whole k card Repeated = (omega arith, omega arith)
lies o whole k card PastEnd = (omega arith, omega arith)

pub columns_lie : ColumnsLie
columns_lie o whole k card cause h = lies o whole k card cause

-- names

names_of : List (ℕ × ℕ) → List ℕ
names_of [] = []
names_of (s ∷ symbols) = s.0 ∷ names_of symbols

-- one name more, which none has
pushed : (xs : List ℕ) (y : ℕ) → IsDistinct nat_eq xs → AllByRecursion (λ x. nat_eq x y ≡ false) xs → IsDistinct nat_eq (xs ++ y ∷ [])
unfolding IsDistinct
pushed [] y differ none = (tt, tt)
pushed (x ∷ xs) y differ none = (all_pushed x xs y differ.0 none.0, pushed xs y differ.1 none.1)
  where
    all_pushed : (x : ℕ) (xs : List ℕ) (y : ℕ) → AllByRecursion (λ z. nat_eq x z ≡ false) xs → nat_eq x y ≡ false → AllByRecursion (λ z. nat_eq x z ≡ false) (xs ++ y ∷ [])
    all_pushed x [] y h e = (e, tt)
    all_pushed x (z ∷ zs) y h e = (h.0, all_pushed x zs y h.1 e)

other_way : (a b : ℕ) → nat_eq a b ≡ false → nat_eq b a ≡ false
other_way a b h = grind (arith, h, nat_tests)

first_case : (s : ℕ × ℕ) (symbols : List (ℕ × ℕ)) (name : ℕ) (b : Bool) → nat_eq name s.0 ≡ b → is_none (if b then Some s.1 else value_in symbols name) ≡ true
    → (is_none (value_in symbols name) ≡ true → AllByRecursion (λ x. nat_eq x name ≡ false) (names_of symbols))
    → AllByRecursion (λ x. nat_eq x name ≡ false) (names_of (s ∷ symbols))
unfolding names_of
first_case s symbols name true e h more = absurd (true≢false (sym h))
first_case s symbols name false e h more = (other_way name s.0 e, more h)

none_has : (symbols : List (ℕ × ℕ)) (name : ℕ) → is_none (value_in symbols name) ≡ true → AllByRecursion (λ x. nat_eq x name ≡ false) (names_of symbols)
unfolding names_of
none_has [] name h = tt
none_has (s ∷ symbols) name h = first_case s symbols name (nat_eq name s.0) refl h (none_has symbols name)

added_names : (symbols : List (ℕ × ℕ)) (name v : ℕ) → names_of (symbols ++ (name, v) ∷ []) ≡ names_of symbols ++ name ∷ []
unfolding names_of
added_names [] name v = refl
added_names (s ∷ symbols) name v = ap (λ (l : List ℕ). s.0 ∷ l) (added_names symbols name v)

with_case : (symbols : List (ℕ × ℕ)) (name v : ℕ) (b : Bool) → is_none (value_in symbols name) ≡ b → IsDistinct nat_eq (names_of symbols)
    → IsDistinct nat_eq (names_of (if b then symbols ++ (name, v) ∷ [] else symbols))
with_case symbols name v true e differ = subst (IsDistinct nat_eq) (sym (added_names symbols name v)) (pushed (names_of symbols) name differ (none_has symbols name e))
with_case symbols name v false e differ = differ

with_differ : (k : Known) (name : Option ℕ) (v : ℕ) → IsDistinct nat_eq (names_of k.symbols) → IsDistinct nat_eq (names_of (with_symbol k name v))
with_differ k None v differ = differ
with_differ k (Some name) v differ = with_case k.symbols name v (is_none (value_in k.symbols name)) refl differ

known_differ : (k : Known) (o : Option Operation) (card : List ℕ) → IsDistinct nat_eq (names_of k.symbols) → IsDistinct nat_eq (names_of (known_with k o card).symbols)
known_differ k None card differ = with_differ k (symbol_of card) _ differ
known_differ k (Some o) card differ = with_differ k (symbol_of card) (symbol_value k o card) differ

behind_differ : (k : Known) (card : List ℕ) → IsDistinct nat_eq (names_of k.symbols) → IsDistinct nat_eq (names_of (known_behind k card).symbols)
behind_differ k card differ = by (is_comment card)
  where
    by : (b : Bool) → IsDistinct nat_eq (names_of (if b then k else known_with k (operation_named (operation_of card)) card).symbols)
    by true = differ
    by false = known_differ k (operation_named (operation_of card)) card differ

after_differ : (k : Known) (cards : List (List ℕ)) → IsDistinct nat_eq (names_of k.symbols) → IsDistinct nat_eq (names_of (known_after k cards).symbols)
after_differ k [] differ = differ
after_differ k (card ∷ cards) differ = after_differ (known_behind k card) cards (behind_differ k card differ)

rows_names : (symbols : List (ℕ × ℕ)) → map (λ (s : SymbolValue). s.name) (map row_of_symbol symbols) ≡ names_of symbols
unfolding names_of
rows_names [] = refl
rows_names (s ∷ symbols) = ap (λ (l : List ℕ). s.0 ∷ l) (rows_names symbols)

nothing_differs : IsDistinct nat_eq (names_of nothing_known.symbols)
unfolding IsDistinct names_of
nothing_differs = tt

pub names_differ : NamesDiffer
unfolding listed
names_differ cards =
    subst (IsDistinct nat_eq) (sym (rows_names (known_after nothing_known (cards_read cards)).symbols))
    (after_differ nothing_known (cards_read cards) nothing_differs)
