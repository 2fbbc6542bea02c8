-- The lines of a text of cards are those cards.
use Rattle.std.proofs.Common.{◌≡◌, ℕ, zero, suc, ◌-◌, ◌≤◌, Bool, true, false, nat_le, List, [], ◌∷◌, ◌++◌, length, get_or, refl, ap, ◌∙◌, append_assoc, arith}
use Rattle.std.specs.Prelude.{◌==◌}
use Rattle.std.specs.List.{All, list_all, flat_map, slice_split}
use Rattle.std.specs.Str.Lines.{lines, lines_of_parts, strip_carriage_return}
use Rattle.std.proofs.lemmas.Bool.{and_parts, and_from}
use Rattle.std.proofs.lemmas.Bool.Decides.{nat_tests}
use Rattle.std.proofs.lemmas.List.Elements.{All-nil, All-cons}
use Rattle.std.proofs.lemmas.List.Folds.{list_all-append}
use Rattle.std.proofs.lemmas.List.Splits.{slice_split_at, length-slice_split}
use Rattle.text_model.specs.Parts.{line}

-- a byte that ends no line
abbrev pub is_shown : ℕ → Bool
is_shown b = nat_le 32 b

-- a card of such bytes
abbrev pub is_clean : List ℕ → Bool
is_clean card = list_all is_shown card

-- the end of a line
abbrev is_end : ℕ → Bool
is_end b = b == 10

-- a byte that is shown ends no line
no_end : (b : ℕ) → is_shown b ≡ true → is_end b ≡ false
no_end b h = grind (arith, nat_tests)

-- nor does any of a clean card
no_ends : (card : List ℕ) → is_clean card ≡ true → All (λ b. is_end b ≡ false) card
no_ends [] h = All-nil (λ b. is_end b ≡ false)
no_ends (b ∷ bs) h = let parts = and_parts (is_shown b) (is_clean bs) h in All-cons (λ c. is_end c ≡ false) b bs (no_end b parts.0) (no_ends bs parts.1)

-- a byte that is shown is no carriage return
no_return : (b : ℕ) → is_shown b ≡ true → (b == 13) ≡ false
no_return b h = grind (arith, nat_tests)

-- no byte of it is a carriage return, nor is the 0 behind it
returns_nowhere : (card : List ℕ) (k : ℕ) → is_clean card ≡ true → (get_or card k 0 == 13) ≡ false
returns_nowhere [] k h = refl
returns_nowhere (b ∷ bs) zero h = no_return b (and_parts (is_shown b) (is_clean bs) h).0
returns_nowhere (b ∷ bs) (suc k) h = returns_nowhere bs k (and_parts (is_shown b) (is_clean bs) h).1

-- nothing is stripped from a clean card
strips_nothing : (card : List ℕ) → is_clean card ≡ true → strip_carriage_return card ≡ card
strips_nothing card h = rw (returns_nowhere card (length card - 1) h) refl

-- a part with others behind it is a line
first_of_parts : (card : List ℕ) (parts : List (List ℕ)) → 1 ≤ length parts → lines_of_parts (card ∷ parts) ≡ strip_carriage_return card ∷ lines_of_parts parts
first_of_parts card [] some = absurd (omega arith)
first_of_parts card (part ∷ parts) some = refl

-- a clean card before a line's end is the first line
first_line : (card rest : List ℕ) → is_clean card ≡ true → lines (card ++ 10 ∷ rest) ≡ card ∷ lines rest
first_line card rest h =
    ap lines_of_parts (slice_split_at is_end card 10 rest (no_ends card h) refl)
    ∙ first_of_parts card (slice_split is_end rest) (omega (arith, length-slice_split is_end rest))
    ∙ ap (λ (l : List ℕ). l ∷ lines rest) (strips_nothing card h)

-- the lines of clean cards
pub lines_of_cards : (cards : List (List ℕ)) → list_all is_clean cards ≡ true → lines (flat_map line cards) ≡ cards
lines_of_cards [] h = refl
lines_of_cards (card ∷ cards) h =
    let parts = and_parts (is_clean card) (list_all is_clean cards) h in
    ap lines (append_assoc card (10 ∷ []) (flat_map line cards)) ∙ first_line card (flat_map line cards) parts.0 ∙ ap (λ (l : List (List ℕ)). card ∷ l) (lines_of_cards cards parts.1)

-- a card in two clean parts, and cards in two parts
pub clean_both : (xs ys : List ℕ) → is_clean xs ≡ true → is_clean ys ≡ true → is_clean (xs ++ ys) ≡ true
clean_both xs ys h k = list_all-append is_shown xs ys ∙ and_from (is_clean xs) (is_clean ys) h k

-- clean cards behind clean cards
pub all_clean_both : (xs ys : List (List ℕ)) → list_all is_clean xs ≡ true → list_all is_clean ys ≡ true → list_all is_clean (xs ++ ys) ≡ true
all_clean_both xs ys h k = list_all-append is_clean xs ys ∙ and_from (list_all is_clean xs) (list_all is_clean ys) h k
