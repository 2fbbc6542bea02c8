-- The lines behind a program's cards.
use Rattle.std.proofs.Common.{◌≡◌, ℕ, zero, suc, ◌+◌, ◌-◌, ◌<◌, ◌≤◌, Bool, true, false, if◌then◌else◌, List, [], ◌∷◌, ◌++◌, length, drop, min, get_or, Option, Some, None, Ok, Err, refl, sym, ap, subst, ◌∙◌, arith, append_assoc, append-nil, drop-cons}
use Rattle.std.specs.Prelude.{IfOk}
use Rattle.std.specs.declared.result.Result.{Result}
use Rattle.std.proofs.lemmas.List.{drop_all, drop-map, length-map}
use Rattle.fap_read.specs.declared.card.Card.{Card}
use Rattle.fap_assemble.specs.Steps.{texts}
use Rattle.fap_model.specs.Places.{Known, nothing_known, known_behind}
use Rattle.fap_model.specs.Decks.{Assembled, deck, faulty, assembled, Whole, operation_in, is_end, cards_read, whole_of}
use Rattle.fap_model.specs.declared.types.Listed.{Listed}
use Rattle.fap_model.specs.Listed.{rows_from, listed}
use Rattle.program_trace.specs.Programs.{Program, ProgramFault, Cards, Line, cards_behind, most_lines, line_in, with_line, with_card, lines_from, program_with, program_by, program_of}

-- lines behind others
pub onto : List (List ℕ) → Result (List (List ℕ)) ProgramFault → Result (List (List ℕ)) ProgramFault
onto done (Ok lines) = Ok (done ++ lines)
onto done (Err fault) = Err fault

pub onto_none : (told : Result (List (List ℕ)) ProgramFault) → onto [] told ≡ told
unfolding onto
onto_none (Ok lines) = refl
onto_none (Err fault) = refl

onto_line : (done : List (List ℕ)) (line : List ℕ) (told : Result (List (List ℕ)) ProgramFault) → onto done (with_line line told) ≡ onto (done ++ line ∷ []) told
unfolding onto
onto_line done line (Ok lines) = ap (λ (ls : List (List ℕ)). Ok ls) (sym (append_assoc done (line ∷ []) lines))
onto_line done line (Err fault) = refl

-- what is left from an element on is that element and what is left behind it
pub one_less : {X : Type 0} (xs : List X) (i : ℕ) (x : X) → i < length xs → x ≡ get_or xs i x → drop i xs ≡ x ∷ drop (i + 1) xs
one_less xs i x within is =
    let next : suc i ≡ i + 1 = omega arith in
    drop-cons xs i x within ∙ ap (λ (y : _). y ∷ drop (suc i) xs) (sym is) ∙ ap (λ (k : ℕ). x ∷ drop k xs) next

-- a card whose line was added
pub next_line : (done : List (List ℕ)) (line : List ℕ) (left n i : ℕ) (card : Card) (cards : List Card) → i < length cards → card ≡ get_or cards i card
    → Some line ≡ line_in card.text → 0 < left
    → onto done (lines_from left n (texts (drop i cards))) ≡ onto (done ++ line ∷ []) (lines_from (left - 1) (n + 1) (texts (drop (i + 1) cards)))
unfolding onto
next_line done line zero n i card cards within is told some = absurd (omega (arith, some))
next_line done line (suc left) n i card cards within is told some =
    ap (λ (cs : List Card). onto done (lines_from (suc left) n (texts cs))) (one_less cards i card within is)
    ∙ ap (λ (o : Option (List ℕ)). onto done (with_card n o (lines_from left (n + 1) (texts (drop (i + 1) cards))))) (sym told)
    ∙ onto_line done line (lines_from left (n + 1) (texts (drop (i + 1) cards)))
    ∙ ap (λ (k : ℕ). onto (done ++ line ∷ []) (lines_from k (n + 1) (texts (drop (i + 1) cards)))) (omega arith)

-- a card that is no line
pub bad_line : (done : List (List ℕ)) (left n i : ℕ) (card : Card) (cards : List Card) → i < length cards → card ≡ get_or cards i card
    → None ≡ line_in card.text → onto done (lines_from left n (texts (drop i cards))) ≡ Err (Line n)
unfolding onto
bad_line done zero n i card cards within is told = ap (λ (cs : List Card). onto done (lines_from 0 n (texts cs))) (one_less cards i card within is)
bad_line done (suc left) n i card cards within is told =
    ap (λ (cs : List Card). onto done (lines_from (suc left) n (texts cs))) (one_less cards i card within is)
    ∙ ap (λ (o : Option (List ℕ)). onto done (with_card n o (lines_from left (n + 1) (texts (drop (i + 1) cards))))) (sym told)

-- a card that is one too many
pub one_too_many : (done : List (List ℕ)) (left n i : ℕ) (card : Card) (cards : List Card) → i < length cards → card ≡ get_or cards i card
    → left ≡ 0 → onto done (lines_from left n (texts (drop i cards))) ≡ Err (Line n)
unfolding onto
one_too_many done left n i card cards within is none =
    ap (λ (k : ℕ). onto done (lines_from k n (texts (drop i cards)))) none
    ∙ ap (λ (cs : List Card). onto done (lines_from 0 n (texts cs))) (one_less cards i card within is)

-- no card is left
pub all_told : (done : List (List ℕ)) (left n i : ℕ) (cards : List Card) → length cards ≤ i → onto done (lines_from left n (texts (drop i cards))) ≡ Ok done
unfolding onto
all_told done left n i cards past =
    ap (λ (cs : List Card). onto done (lines_from left n (texts cs))) (drop_all i cards past) ∙ none left
  where
    none : (left : ℕ) → onto done (lines_from left n (texts [])) ≡ Ok done
    none zero = ap (λ (ls : List (List ℕ)). Ok ls) (append-nil done)
    none (suc left) = ap (λ (ls : List (List ℕ)). Ok ls) (append-nil done)

-- no more lines than may be

one_more : (left n : ℕ) (line : Option (List ℕ)) (told : Result (List (List ℕ)) ProgramFault) → IfOk told (λ ls. length ls ≤ left)
    → IfOk (with_card n line told) (λ ls. length ls ≤ suc left)
one_more left n None told few = tt
one_more left n (Some line) (Ok lines) few = omega (arith, few)
one_more left n (Some line) (Err fault) few = tt

pub few_lines : (left n : ℕ) (cards : List (List ℕ)) → IfOk (lines_from left n cards) (λ ls. length ls ≤ left)
few_lines zero n [] = omega arith
few_lines (suc left) n [] = omega arith
few_lines zero n (card ∷ cards) = tt
few_lines (suc left) n (card ∷ cards) = one_more left n (line_in card) (lines_from left (n + 1) cards) (few_lines left (n + 1) cards)

-- a card that is read has a row

rows_many : (whole : Whole) (k : Known) (cards : List (List ℕ)) → length (rows_from whole k cards) ≡ length cards
rows_many whole k [] = refl
rows_many whole k (card ∷ cards) = ap suc (rows_many whole (known_behind k card) cards)

rows_read : (cards : List (List ℕ)) → length (listed cards).rows ≡ length (cards_read cards)
unfolding listed
rows_read cards = rows_many (whole_of cards) nothing_known (cards_read cards)

few_read : (cards : List (List ℕ)) → length (cards_read cards) ≤ length cards
few_read [] = omega arith
few_read (card ∷ cards) = by (is_end (operation_in card)) (few_read cards)
  where
    by : (b : Bool) → length (cards_read cards) ≤ length cards → length (if b then card ∷ [] else card ∷ cards_read cards) ≤ suc (length cards)
    by true few = omega arith
    by false few = omega (arith, few)

pub row_count : (cards : List Card) (l : Listed) → l ≡ listed (texts cards) → length l.rows ≡ length (cards_read (texts cards))
row_count cards l is = ap (λ (m : Listed). length m.rows) is ∙ rows_read (texts cards)

pub few_rows : (cards : List Card) (l : Listed) → l ≡ listed (texts cards) → length l.rows ≤ length cards
few_rows cards l is = omega (arith, row_count cards l is, few_read (texts cards), length-map cards (λ (c : Card). c.text))

-- the cards behind those that are read
pub behind : (cards rest : List Card) (l : Listed) (n : ℕ) → l ≡ listed (texts cards) → n ≡ min (length l.rows) (length cards) → rest ≡ drop n cards
    → texts rest ≡ cards_behind (texts cards)
behind cards rest l n is least left =
    let all : n ≡ length (cards_read (texts cards)) = omega (arith, least, row_count cards l is, few_rows cards l is) in
    ap texts left ∙ sym (drop-map (λ (c : Card). c.text) n cards) ∙ ap (λ (k : ℕ). drop k (texts cards)) all

-- the program of cards

pub program_is : (cards : List (List ℕ)) (words : List ℕ) (n : ℕ) (told : Result (List (List ℕ)) ProgramFault) → assembled cards ≡ deck words
    → n ≡ length (cards_read cards) → told ≡ lines_from most_lines (n + 1) (cards_behind cards) → program_with words told ≡ program_of cards
unfolding program_of
program_is cards words n told is many lines =
    ap (program_with words) (lines ∙ ap (λ (k : ℕ). lines_from most_lines (k + 1) (cards_behind cards)) many)
    ∙ sym (ap (λ (a : Assembled). program_by a cards) is)

pub no_program : (cards : List (List ℕ)) (faults : List (ℕ × ℕ)) → assembled cards ≡ faulty faults → Err Cards ≡ program_of cards
unfolding program_of
no_program cards faults is = sym (ap (λ (a : Assembled). program_by a cards) is)

few_by : (words : List ℕ) (told : Result (List (List ℕ)) ProgramFault) → IfOk told (λ ls. length ls ≤ 2047) → IfOk (program_with words told) (λ p. length p.lines ≤ 2047)
few_by words (Ok lines) few = few
few_by words (Err fault) few = tt

pub few_with : (words : List ℕ) (n : ℕ) (cards : List (List ℕ)) (told : Result (List (List ℕ)) ProgramFault) (made : Result Program ProgramFault)
    → made ≡ program_with words told → told ≡ lines_from most_lines n cards → IfOk made (λ p. length p.lines ≤ 2047)
few_with words n cards told made by is =
    let few = subst (λ (r : Result (List (List ℕ)) ProgramFault). IfOk r (λ ls. length ls ≤ 2047)) (sym is) (few_lines most_lines n cards) in
    subst (λ (r : Result Program ProgramFault). IfOk r (λ p. length p.lines ≤ 2047)) (sym by) (few_by words told few)
